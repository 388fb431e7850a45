-- What was written or updated through the front is read through it.
use mathlib.Core.Bool.{Bool, true, false}
use mathlib.Core.List.{List}
use mathlib.Core.Path.{◌≡◌, ap, subst, ◌∙◌}
use Prim.Native.Nat.{ℕ, ◌+◌, ◌*◌, ◌<◌}
use Rattle.lists.specs.Parts.{part}
use Rattle.lists.proofs.AreBytes.{Bytes}
use Rattle.lists.proofs.ByteLists.{Bytes-part}
use Rattle.desk.specs.Answers.{moved}
use Rattle.desk.specs.Calls.{Call, read, write, update, step}
use Rattle.front.specs.Blocks.{options_of, lun_in, number_in, start_in, selector_in, formatted_in}
use Rattle.front.specs.Areas.{names_shared, area, part_named}
use Rattle.front.specs.Front.{Lent, transfer_asked, asked}
use Rattle.promises.specs.Fronts.{state_of, bytes_lent, Asks, HandsBackThrough, WrittenThrough, WrittenSectorThrough, UpdatedThrough, slot_asked, unit_asked}
use Rattle.promises.specs.Lasting.{Between, HandsBack}
use Rattle.promises.specs.Sectors.{Accepts}
use Rattle.promises.proofs.Fronts.FrontCarried.{accepted_through}
use Rattle.promises.proofs.Lasts.ReadBack.{written_is_read, written_sector_is_read, updated_is_read}

-- the call that a block of this function asks for
module _ (caller : ℕ) (l : Lent) where
  Asks-transfer : (f : ℕ) → Asks f l → asked caller l ≡ transfer_asked caller l.block (bytes_lent l)
  unfolding asked
  Asks-transfer f a = rw a.is_transfer

  pub Asks-read : Asks 0x01 l
      → asked caller l ≡ read caller (lun_in l.block) (selector_in (options_of l.block)) (number_in l.block) (formatted_in (options_of l.block)) (bytes_lent l)
  unfolding transfer_asked
  Asks-read a = Asks-transfer 0x01 a ∙ rw a.its_function

  pub Asks-write : Asks 0x02 l
      → asked caller l ≡ write caller (lun_in l.block) (selector_in (options_of l.block)) (number_in l.block) (formatted_in (options_of l.block)) (bytes_lent l)
  unfolding transfer_asked
  Asks-write a = Asks-transfer 0x02 a ∙ rw a.its_function

  pub Asks-update : Asks 0x08 l
      → asked caller l ≡ update caller (lun_in l.block) (selector_in (options_of l.block)) (number_in l.block) (formatted_in (options_of l.block)) (bytes_lent l)
  unfolding transfer_asked
  Asks-update a = Asks-transfer 0x08 a ∙ rw a.its_function

-- what an area lends is bytes if the areas are
area-Bytes : (b : Bool) (t s : List ℕ) → Bytes t → Bytes s → Bytes (area b t s)
area-Bytes true t s x y = y
area-Bytes false t s x y = x

pub Lent-Bytes : (l : Lent) → Bytes l.task → Bytes l.shared → Bytes (bytes_lent l)
unfolding part_named
Lent-Bytes l x y = Bytes-part _ _ _ (area-Bytes (names_shared (start_in l.block)) l.task l.shared x y)

-- what is handed back to any accepted read is handed back through the front
HandsBack-through : (m : Lent) (e : List ℕ) (k i : ℕ) (ss : List ℕ) → HandsBack (state_of m) e k i ss → HandsBackThrough m e k i ss
HandsBack-through m e k i ss h caller a z ek ei =
    let c = accepted_through caller m z in
    let q = Asks-read caller m a in
    let r = h (formatted_in (options_of m.block)) caller (lun_in m.block) (selector_in (options_of m.block)) (number_in m.block) (bytes_lent m)
    (subst (λ (x : Call). Accepts x (state_of m)) q c.accepted) ek ei in (
      c.part_is a.is_transfer ∙ ap (λ (x : Call). (step x (state_of m)).buffer) q ∙ r.0,
      c.length_there ∙ ap (λ (x : Call). moved (step x (state_of m)).answer) q ∙ ap moved r.1,
    )

pub written_through : WrittenThrough
written_through caller l bi bt bs a z e vs m w =
    let c = accepted_through caller l z in
    let q = Asks-write caller l a in
    HandsBack-through m _ _ _ _
    (written_is_read (state_of l) bi caller (lun_in l.block) (selector_in (options_of l.block)) (number_in l.block) (formatted_in (options_of l.block)) (bytes_lent l)
    (Lent-Bytes l bt bs) (subst (λ (x : Call). Accepts x (state_of l)) q c.accepted) e vs (state_of m)
    (subst (λ (img : List ℕ). Between img (slot_asked l) (unit_asked l) vs m.image) (c.image_is ∙ ap (λ (x : Call). (step x (state_of l)).image) q) w))

pub written_sector_through : WrittenSectorThrough
written_sector_through caller l bi bt bs a z e j h vs m w caller' b y ek x ei lx =
    let c = accepted_through caller l z in
    let q = Asks-write caller l a in
    let d = accepted_through caller' m y in
    let r = Asks-read caller' m b in
    ap (part (256 * x) 256) (d.part_is b.is_transfer ∙ ap (λ (k : Call). (step k (state_of m)).buffer) r)
    ∙ written_sector_is_read (state_of l) bi caller (lun_in l.block) (selector_in (options_of l.block)) (number_in l.block) (formatted_in (options_of l.block))
    (bytes_lent l) (Lent-Bytes l bt bs) (subst (λ (k : Call). Accepts k (state_of l)) q c.accepted) e j h vs (state_of m)
    (subst (λ (img : List ℕ). Between img (slot_asked l) (unit_asked l + j) vs m.image) (c.image_is ∙ ap (λ (k : Call). (step k (state_of l)).image) q) w)
    caller' (lun_in m.block) (selector_in (options_of m.block)) (number_in m.block) (formatted_in (options_of m.block)) (bytes_lent m)
    (subst (λ (k : Call). Accepts k (state_of m)) r d.accepted) ek x ei
    (subst (λ (n : ℕ). 256 * x < n) (d.length_there ∙ ap (λ (k : Call). moved (step k (state_of m)).answer) r) lx)

pub updated_through : UpdatedThrough
updated_through caller l bi bt bs a z vs m w =
    let c = accepted_through caller l z in
    let q = Asks-update caller l a in
    HandsBack-through m _ _ _ _
    (updated_is_read (state_of l) bi caller (lun_in l.block) (selector_in (options_of l.block)) (number_in l.block) (formatted_in (options_of l.block)) (bytes_lent l)
    (Lent-Bytes l bt bs) (subst (λ (x : Call). Accepts x (state_of l)) q c.accepted) vs (state_of m)
    (subst (λ (img : List ℕ). Between img (slot_asked l) (unit_asked l) vs m.image) (c.image_is ∙ ap (λ (x : Call). (step x (state_of l)).image) q) w))
