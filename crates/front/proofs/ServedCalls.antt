-- Calls over image and desk bytes, case by case.
use Rattle.std.specs.Prelude.{if◌then◌else◌}
use mathlib.Core.Bool.{Bool, true, false}
use mathlib.Core.List.{List, [], ◌∷◌}
use mathlib.Core.Path.{◌≡◌, refl, ap, sym, ◌∙◌}
use native.Mathlib.Omega.{arith}
use Prim.Native.Nat.{ℕ, ◌+◌, ◌<◌, ◌≤◌}
use lib.ListN.{length}
use borrow.Author.Tests.{eq-eqb, ne_eqb}
use Rattle.lists.proofs.AreBytes.{Bytes}
use Rattle.numbers.specs.Numbers.{most_sectors}
use Rattle.volume.specs.Sat.{free}
use Rattle.files.specs.Files.{sound}
use Rattle.files.specs.Code.Verdict.{checked_of}
use Rattle.work.specs.declared.Refusal.{Refusal}
use Rattle.work.specs.declared.Refusal.TheVariants.{NotSound}
use Rattle.work.specs.Refusals.{Rule, ruled}
use Rattle.deskbytes.specs.DeskBytes.{desk_size, desk_form}
use Rattle.deskbytes.proofs.UnpackedDesk.{unpacked_back}
use Rattle.desk.specs.Answers.{Answer}
use Rattle.std.specs.Prelude.{Err}
use Rattle.desk.specs.declared.Desk.{Desk}
use Rattle.desk.specs.declared.Reply.{Reply}
use Rattle.desk.specs.Desk.{State, state, empty_desk}
use Rattle.desk.specs.Answers.{Outcome, outcome, status, accepts, judged}
use Rattle.desk.specs.Calls.{Call, format, check, bring_up, rules, done, given, checked, step}
use Rattle.desk.proofs.Bounds.{check_few}
use Rattle.front.specs.Front.{packed_desk, unpacked_desk, desk_after, served, served_by, serve, serve_format, serve_check, serve_bring_up, sound_bit, verdict}

-- a reply, as its outcome leaves image and desk bytes
Reply-served : (r : Reply) (o : Outcome) (n : ℕ) (a : Answer) (img buf bs bs' : List ℕ) → outcome r.answer img r.desk buf ≡ o → a ≡ r.answer → n ≡ status a
    → bs' ≡ desk_after r.answer r.desk bs → served n img bs' ≡ served_by o bs
Reply-served r o n a img buf bs bs' q ea en eb =
    (λ i. served ((en ∙ ap status ea) i) img (eb i)) ∙ ap (λ (x : Outcome). served_by x bs) q

module _ (c : Call) (img bs : List ℕ) where
  pub serve_bad : (n : ℕ) → desk_form bs ≡ false → n ≡ status (Err NotSound) → served n img bs ≡ serve c img bs
  unfolding serve ruled
  serve_bad n e en = rw e (ap (λ (m : ℕ). served m img bs) en)

  pub serve_done : (r : Reply) (n : ℕ) (a : Answer) (d : Desk) (img' buf bs' : List ℕ) → desk_form bs ≡ true → d ≡ unpacked_desk bs
      → outcome r.answer img' r.desk buf ≡ step c (state img d) → a ≡ r.answer → n ≡ status a → bs' ≡ desk_after r.answer r.desk bs
      → served n img' bs' ≡ serve c img bs
  unfolding serve ruled
  serve_done r n a d img' buf bs' e ed q ea en eb =
      rw e (Reply-served r _ n a img' buf bs bs' (q ∙ ap (λ (x : Desk). step c (state img x)) ed) ea en eb)

  -- of a call that leaves the image, made on the desk that the bytes stand for
  pub served_call : (P : Reply → Type 0) (n : ℕ) (a : Answer) (bs' : List ℕ)
      → ((r : Reply) → P r → outcome r.answer img r.desk [] ≡ step c (state img (unpacked_desk bs)))
      → (desk_form bs ≡ false → (a ≡ Err NotSound) × (bs' ≡ bs))
      → (desk_form bs ≡ true → (r : Reply) × P r × (a ≡ r.answer) × (bs' ≡ desk_after r.answer r.desk bs))
      → n ≡ status a → served n img bs' ≡ serve c img bs
  served_call P n a bs' means bad good en = go (desk_form bs) refl
    where
      go : (b : Bool) → desk_form bs ≡ b → served n img bs' ≡ serve c img bs
      go true e =
          let g = good e in
          serve_done g.0 n a (unpacked_desk bs) img [] bs' e refl (means g.0 g.1) g.2 en g.3
      go false e =
          let x = bad e in
          ap (λ (b : List ℕ). served n img b) x.1 ∙ serve_bad n e (en ∙ ap status x.0)

module _ (id : List ℕ) (dirs : ℕ) (img bs : List ℕ) where
  pub format_bad : (n : ℕ) → (length bs ≡ desk_size → ⊥) → n ≡ status (Err NotSound) → served n img bs ≡ serve_format id dirs img bs
  unfolding serve_format ruled
  format_bad n e en = rw (ne_eqb (length bs) desk_size e) (ap (λ (m : ℕ). served m img bs) en)

  pub format_done : (r : Reply) (n : ℕ) (a : Answer) (d : Desk) (img' buf bs' : List ℕ) → length bs ≡ desk_size → d ≡ empty_desk
      → outcome r.answer img' r.desk buf ≡ step (format id dirs) (state img d) → a ≡ r.answer → n ≡ status a
      → bs' ≡ desk_after r.answer r.desk bs → served n img' bs' ≡ serve_format id dirs img bs
  unfolding serve_format ruled
  format_done r n a d img' buf bs' e ed q ea en eb =
      rw (eq-eqb (length bs) desk_size e) (Reply-served r _ n a img' buf bs bs' (q ∙ ap (λ (x : Desk). step (format id dirs) (state img x)) ed) ea en eb)

-- a call whose change keeps the desk keeps it, refused or not
picked : (b : Bool) (x y : Outcome) (d : Desk) → x.desk ≡ d → y.desk ≡ d → (if b then x else y).desk ≡ d
picked true x y d e f = e
picked false x y d e f = f

ruled-Desk : (rs : List Rule) (refuse : Refusal → Outcome) (o : Outcome) (d : Desk) → ((why : Refusal) → (refuse why).desk ≡ d) → o.desk ≡ d → (ruled rs refuse o).desk ≡ d
unfolding ruled
ruled-Desk [] refuse o d h e = e
ruled-Desk (r ∷ rs) refuse o d h e = picked r.holds _ _ d (h r.refusal) (ruled-Desk rs refuse o d h e)

pub step-desk : (c : Call) (s : State) → (done c s).desk ≡ s.desk → (step c s).desk ≡ s.desk
unfolding step judged
step-desk c s e = ruled-Desk (rules c s) _ _ s.desk (λ why. refl) e

Desk-same : (a : Answer) (d : Desk) (bs : List ℕ) → packed_desk d ≡ bs → bs ≡ desk_after a d bs
unfolding desk_after
Desk-same a d bs e = go (accepts a)
  where
    go : (b : Bool) → bs ≡ (if b then packed_desk d else bs)
    go true = sym e
    go false = refl

repacked : (bs : List ℕ) → Bytes bs → desk_form bs ≡ true → packed_desk (unpacked_desk bs) ≡ bs
unfolding packed_desk unpacked_desk
repacked bs b e = unpacked_back bs b e

-- of such a call the desk bytes are as they were
pub serve_kept : (c : Call) (img bs : List ℕ) (r : Reply) (n : ℕ) (d : Desk) (img' buf : List ℕ) → Bytes bs → desk_form bs ≡ true → d ≡ unpacked_desk bs
    → (done c (state img d)).desk ≡ d → outcome r.answer img' r.desk buf ≡ step c (state img d) → n ≡ status r.answer → served n img' bs ≡ serve c img bs
serve_kept c img bs r n d img' buf b e ed ek q en =
    serve_done c img bs r n r.answer d img' buf bs e ed q refl en
    (Desk-same r.answer r.desk bs
    (ap packed_desk (ap (λ (x : Outcome). x.desk) q ∙ step-desk c (state img d) ek ∙ ed) ∙ repacked bs b e))

-- check's verdict is below twice the bit of a sound volume
pub verdict_few : (img : List ℕ) (d : Desk) → verdict (step check (state img d)).answer < 131072
unfolding step rules done given judged ruled checked checked_of
verdict_few img d = go (sound img) (check_few img)
  where
    go : (b : Bool) → (if b then free img else 0) ≤ most_sectors → (if b then sound_bit else 0) + (if b then free img else 0) < 131072
    go true h = omega arith
    go false h = omega arith

-- any desk will do
pub verdict_any : (img : List ℕ) (d : Desk) → verdict (step check (state img d)).answer ≡ serve_check img
unfolding serve_check step rules done given judged ruled checked
verdict_any img d = refl

-- bring-up of the image beside an empty desk
pub bring_up_done : (img bs : List ℕ) (r : Reply) (n : ℕ) (d : Desk) (img' buf : List ℕ) → d ≡ empty_desk → outcome r.answer img' r.desk buf ≡ step bring_up (state img d)
    → n ≡ status r.answer → served n img' bs ≡ serve_bring_up img bs
unfolding serve_bring_up
bring_up_done img bs r n d img' buf ed q en =
    ap (λ (m : ℕ). served m img' bs) en
    ∙ ap (λ (x : Outcome). served (status x.answer) x.image bs) (q ∙ ap (λ (x : Desk). step bring_up (state img x)) ed)
