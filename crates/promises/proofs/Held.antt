-- What a ready state says of the file behind a LUN that a caller holds; and the LUNs over a changed volume.
use mathlib.Core.List.{List, [], ◌∷◌}
use mathlib.Core.Path.{◌≡◌, refl}
use mathlib.Core.Bool.{true, Bool}
use Prim.Native.Nat.{ℕ, ◌*◌, ◌<◌, ◌≤◌}
use native.Mathlib.Decide.{ℕ_discrete}
use native.Mathlib.Omega.{arith}
use borrow.Author.Tests.{ltb-true}
use Rattle.numbers.specs.Numbers.{lun_count}
use Rattle.lists.specs.Lists.{all, ◌and◌}
use Rattle.lists.proofs.Tests.{and_left, and_right}
use Rattle.volume.specs.Directory.{entry_at, SameButCount}
use Rattle.volume.proofs.EntryCounted.{alike_entry}
use Rattle.volume.specs.Volume.{dirs}
use Rattle.files.specs.Files.{extent, sound}
use Rattle.files.proofs.SoundFacts.{Facts, CountsTrue, facts, counts_true}
use Rattle.files.proofs.slot.UsedSlots.{used_slot}
use Rattle.files.proofs.OneFileChanged.{Changed, entry_other, file_other, entry_here}
use Rattle.files.proofs.Kept.RecordsSame.{extent_same}
use Rattle.luns.specs.declared.Lun.{Lun}
use Rattle.luns.proofs.Fitting.{Fitted, Fitting, fitting, Fitting-kept}
use Rattle.desk.specs.Desk.{State, lun_at, mine, ready}
use Rattle.desk.proofs.DeskFitting.{lun_fits_lem}
use Rattle.promises.specs.Contents.{slot_held}

-- the entry behind a LUN: `file_of`, seen through
abbrev pub entry_of : State → ℕ → List ℕ
entry_of s lun = entry_at s.image (slot_held s lun)

-- what the first rule of a call tells, if it passes
module _ (s : State) (h : ready s ≡ true) where
  pub ready_sound : sound s.image ≡ true
  unfolding ready
  ready_sound = and_left _ _ h

  pub ready_Fitting : Fitting s.image s.desk.luns
  unfolding ready
  ready_Fitting = fitting s.image s.desk.luns (and_right _ _ h)

pub record Held (s : State) (lun : ℕ) : Type 0 where
  pub facts_of : Facts s.image
  pub counts_of : CountsTrue s.image
  pub fits_of : Fitting s.image s.desk.luns
  pub lun_in : lun < lun_count
  pub is_held : (lun_at s.desk lun).held ≡ true
  pub lun_ok : Fitted s.image (lun_at s.desk lun)
  pub slot_in : slot_held s lun < 8 * dirs s.image

pub Held-by : (s : State) (caller lun : ℕ) → ready s ≡ true → mine s.desk caller lun ≡ true → Held s lun
unfolding mine
Held-by s caller lun r m =
    let a = and_left _ _ m in
    let l : lun < lun_count = ltb-true _ _ (and_right _ _ (and_left _ _ a)) in
    let h : (lun_at s.desk lun).held ≡ true = and_right _ _ a in
    let f = ready_Fitting s r in
    let o = lun_fits_lem s.image s.desk lun l h f in
    record {
      facts_of = facts s.image (ready_sound s r);
      counts_of = counts_true s.image (ready_sound s r);
      fits_of = f;
      lun_in = l;
      is_held = h;
      lun_ok = o;
      slot_in = used_slot s.image (slot_held s lun) o.used;
    }

-- A volume changed in slot k: the LUNs of other slots fit as they did
pub Changed-Fitting : (v v' : List ℕ) (k : ℕ) (e ws : List ℕ) → Changed v v' k e ws → (us : List Lun) (c : Lun → Bool) → all c us ≡ true
    → ((u : Lun) → u.held ≡ true → c u ≡ true → Fitted v u → u.slot ≡ k
    → SameButCount (entry_at v u.slot) (entry_at v' u.slot) × (extent v (entry_at v u.slot) ≤ extent v' (entry_at v u.slot)))
    → Fitting v us → Fitting v' us
Changed-Fitting v v' k e ws C us c hc here f = Fitting-kept v v' us c hc each f
  where
    each : (u : Lun) → u.held ≡ true → c u ≡ true → Fitted v u
        → SameButCount (entry_at v u.slot) (entry_at v' u.slot) × (extent v (entry_at v u.slot) ≤ extent v' (entry_at v u.slot))
    each u h cu o = elim (ℕ_discrete u.slot k) [
      | yes q ↦ here u h cu o q
      | no n ↦
          let S = file_other v v' k e ws C u.slot (used_slot v u.slot o.used) n o.used in
          let x = extent_same v v' (entry_at v u.slot) S o.used in
          (alike_entry (entry_at v u.slot) (entry_at v' u.slot) (entry_other v v' k e ws C u.slot n), omega arith)
    ]

-- .. where nothing more is known of the LUNs than that they fit
pub any_Lun : (us : List Lun) → all (λ u. true) us ≡ true
unfolding all ◌and◌
any_Lun [] = refl
any_Lun (u ∷ us) = any_Lun us

-- the change of one file that keeps its entry but for the count, and is as long or longer
pub grown_Fitting : (v v' : List ℕ) (k : ℕ) (e ws : List ℕ) → Changed v v' k e ws → SameButCount (entry_at v k) e → extent v (entry_at v k) ≤ extent v' (entry_at v k)
    → (us : List Lun) → Fitting v us → Fitting v' us
grown_Fitting v v' k e ws C S x us f =
    Changed-Fitting v v' k e ws C us (λ u. true) (any_Lun us)
    (λ u h c o q. (rw (q, entry_here v v' k e ws C) S, rw q x)) f
