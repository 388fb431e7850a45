-- What is written makes a change of one file: an entry, the SAT and sectors outside the system; or no entry.
use mathlib.Core.Path.{◌≡◌, refl, ap, sym, ◌∙◌}
use mathlib.Core.Bool.{true, false, true≢false}
use mathlib.Core.List.{List, ◌++◌, [], ◌∷◌}
use mathlib.Core.Logic.{◌≢◌}
use Prim.Native.Nat.{ℕ, ◌-◌, zero, suc, ◌<◌, ◌*◌}
use native.Mathlib.Omega.{arith}
use lib.Dec.{eqb}
use lib.ListN.{length, get_or, set}
use borrow.Author.Tests.{eq-eqb, ne_eqb}
use Rattle.lists.specs.Lists.{◌or◌, range, among}
use Rattle.lists.specs.Parts.{sectors}
use Rattle.lists.proofs.Tests.{or_left, or_right, or_first, or_second, is_false, not_both}
use Rattle.lists.proofs.Keeps.{Keeps}
use Rattle.lists.proofs.RangeParts.{Keeps-range}
use Rattle.lists.proofs.Lists.{among-append}
use Rattle.volume.specs.Volume.{sat_at, dir_at, dirs, system_of, system, layout_of}
use Rattle.volume.specs.Directory.{entries, entry_at}
use Rattle.volume.proofs.LayoutKept.{keeps_dir_at, keeps_dirs}
use Rattle.volume.proofs.Slots.{length-entries}
use Rattle.ownership.specs.Owners.{owned}
use Rattle.files.proofs.Kept.FileSame.{clear}
use Rattle.files.proofs.SoundFacts.{Facts}
use Rattle.files.proofs.OwnersApart.{clear_by, clear_at, system_apart, sat_not_dir, clear_flip, clear_join, zero_not, last_not}
use Rattle.files.proofs.OneFileChanged.{Changed}

-- members of the system's list
module _ (v : List ℕ) where
  pub in_zero : among 0 (system v) ≡ true
  unfolding system layout_of system_of among ◌or◌
  in_zero = refl

  pub in_sat : among (sat_at v) (system v) ≡ true
  unfolding system layout_of system_of among
  in_sat = or_second _ _ (or_first _ _ (eq-eqb (sat_at v) (sat_at v) refl))

  pub in_last : among (sectors v - 1) (system v) ≡ true
  unfolding system layout_of system_of among
  in_last = or_second _ _ (or_second _ _ (or_first _ _ (eq-eqb (sectors v - 1) (sectors v - 1) refl)))

  pub in_dir : (u : ℕ) → among u (range (dir_at v) (dirs v)) ≡ true → among u (system v) ≡ true
  unfolding system layout_of system_of among
  in_dir u m = or_second _ _ (or_second _ _ (or_second _ _ m))

  -- the SAT and the directory, as written sectors
  unfoldable pub tables : List ℕ
  tables = range (sat_at v) 1 ++ range (dir_at v) (dirs v)

  pub not_tables : (u : ℕ) → eqb u (sat_at v) ≡ false → among u (range (dir_at v) (dirs v)) ≡ false → among u tables ≡ false
  unfolding tables range among
  not_tables u p q = not_both (eqb u (sat_at v)) (among u (range (dir_at v) (dirs v))) p q

  pub not_system : (u : ℕ) → among u (system v) ≡ false → among u tables ≡ false
  unfolding system layout_of system_of among
  not_system u h = not_tables u (or_left _ _ (or_right _ _ h)) (or_right _ _ (or_right _ _ (or_right _ _ h)))

-- an unwritten directory has the same entries
pub entries_kept : (ws v v' : List ℕ) → Keeps ws v v' → among (sectors v - 1) ws ≡ false → clear ws (range (dir_at v) (dirs v)) ≡ true → entries v' ≡ entries v
unfolding entries clear
entries_kept ws v v' k l c = rw (keeps_dirs ws v v' k l, keeps_dir_at ws v v' k l, Keeps-range ws v v' k (dir_at v) (dirs v) c)

set_same : {A : Type 0} (xs : List A) (k : ℕ) (d : A) → k < length xs → set xs k (get_or xs k d) ≡ xs
set_same [] k d h = absurd (omega arith)
set_same (x ∷ xs) zero d h = refl
set_same (x ∷ xs) (suc k) d h = ap (λ (l : List _). x ∷ l) (set_same xs k d (omega arith))

-- what the SAT is not
module _ (v : List ℕ) (F : Facts v) where
  pub dir_not_sat : (u : ℕ) → among u (range (dir_at v) (dirs v)) ≡ true → eqb u (sat_at v) ≡ false
  dir_not_sat u m = ne_eqb u (sat_at v) (λ q. true≢false (sym m ∙ ap (λ (x : ℕ). among x (range (dir_at v) (dirs v))) q ∙ sat_not_dir v F))

  pub owned_not_sat : (i : ℕ) → i < 8 * dirs v → (u : ℕ) → among u (owned v (entry_at v i)) ≡ true → eqb u (sat_at v) ≡ false
  owned_not_sat i h u m =
      let o : among u (system v) ≡ false = clear_at (system v) (owned v (entry_at v i)) u (system_apart v F i h) m in
      ne_eqb u (sat_at v) (λ q. true≢false (sym (in_sat v) ∙ ap (λ (x : ℕ). among x (system v)) (sym q) ∙ o))

  pub owned_not_tables : (i : ℕ) → i < 8 * dirs v → clear (tables v) (owned v (entry_at v i)) ≡ true
  owned_not_tables i h = clear_by (tables v) (owned v (entry_at v i)) (λ u m. not_system v u (clear_at (system v) (owned v (entry_at v i)) u (system_apart v F i h) m))

  pub owned_not_dir : (i : ℕ) → i < 8 * dirs v → clear (range (dir_at v) (dirs v)) (owned v (entry_at v i)) ≡ true
  owned_not_dir i h =
      clear_by (range (dir_at v) (dirs v)) (owned v (entry_at v i)) (λ u m.
      is_false (among u (range (dir_at v) (dirs v))) (λ q.
      true≢false (sym (in_dir v u q) ∙ clear_at (system v) (owned v (entry_at v i)) u (system_apart v F i h) m)))

pub one-among : (u s : ℕ) → eqb u s ≡ false → among u (range s 1) ≡ false
unfolding range among
one-among u s h = not_both _ _ h refl

-- only sectors outside the system and the SAT: no entry is changed
module _ (v : List ℕ) (F : Facts v) (v' ds : List ℕ) (kw : Keeps (ds ++ range (sat_at v) 1) v v') (out : clear (system v) ds ≡ true) (k : ℕ) (hk : k < 8 * dirs v)
    (apart : (i : ℕ) → i < 8 * dirs v → i ≢ k → clear ds (owned v (entry_at v i)) ≡ true) where
  ws : List ℕ
  ws = ds ++ range (sat_at v) 1

  free_of : (u : ℕ) → among u (system v) ≡ true → eqb u (sat_at v) ≡ false → among u ws ≡ false
  unfolding ws
  free_of u m n = among-append u ds (range (sat_at v) 1) ∙ not_both _ _ (clear_at ds (system v) u (clear_flip (system v) ds out) m) (one-among u (sat_at v) n)

  pub Changed-file : Changed v v' k (entry_at v k) (ds ++ range (sat_at v) 1)
  unfolding ws entry_at
  Changed-file = record {
    keeps = kw;
    vid_out = free_of 0 (in_zero v) (zero_not v F).1;
    last_out = free_of (sectors v - 1) (in_last v) (last_not v F).1;
    slot = hk;
    entries_are =
        entries_kept ws v v' kw (free_of (sectors v - 1) (in_last v) (last_not v F).1)
        (clear_by ws (range (dir_at v) (dirs v)) (λ u m. free_of u (in_dir v u m) (dir_not_sat v F u m))) ∙ sym (set_same (entries v) k [] (omega (arith, length-entries v)));
    others_out =
        λ i h n. clear_join ds (range (sat_at v) 1) (owned v (entry_at v i)) (apart i h n)
        (clear_by (range (sat_at v) 1) (owned v (entry_at v i)) (λ u m. one-among u (sat_at v) (owned_not_sat v F i h u m)));
  }
