-- On a sound volume no sector belongs to two: system sectors, and the sectors of two slots, are apart.
use mathlib.Core.Path.{◌≡◌, refl, ap, sym, ◌∙◌}
use mathlib.Core.Bool.{true, false, not, true≢false}
use mathlib.Core.List.{List, [], ◌∷◌, ◌++◌}
use mathlib.Core.Logic.{◌≢◌}
use Prim.Native.Nat.{ℕ, zero, suc, ◌<◌, ◌-◌, ◌*◌}
use native.Mathlib.Nat.{not-suc-le-zero, le_of_suc-le-suc}
use native.Mathlib.Omega.{arith}
use lib.ListN.{length, get_or, set, length-set}
use lib.Seq.{get_or-set_other}
use lib.Dec.{eqb}
use borrow.Author.Tests.{eq-eqb, not-true, ne_eqb, eqb-false}
use Rattle.lists.specs.Lists.{all, among, flat, range, distinct}
use Rattle.lists.specs.Parts.{blanks, sectors}
use Rattle.lists.proofs.Tests.{both_true, or_first, or_second, is_false, not_both, and_left, and_right, or_left, or_right, zeros-blanks}
use Rattle.lists.proofs.Lists.{all-among, among-append, distinct_tail}
use Rattle.lists.proofs.Keeps.{among-append_left}
use Rattle.lists.proofs.JoinedLists.{disjoint, middle_apart}
use Rattle.lists.proofs.Replaced.{Split, split}
use Rattle.volume.specs.Volume.{sat_at, dir_at, dirs, system_of, system, layout_of}
use Rattle.volume.specs.Directory.{entries, entry_at}
use Rattle.volume.proofs.Slots.{length-entries}
use Rattle.ownership.specs.Owners.{owned, all_owned}
use Rattle.ownership.proofs.OwnedRuns.{owned-unused}
use Rattle.files.proofs.Kept.FileSame.{clear}
use Rattle.files.proofs.SoundFacts.{Facts}

-- a test at each member is a test of all
pub clear_by : (ws ss : List ℕ) → ((u : ℕ) → among u ss ≡ true → among u ws ≡ false) → clear ws ss ≡ true
unfolding clear all among
clear_by ws [] h = refl
clear_by ws (s ∷ ss) h =
    both_true _ _ (ap not (h s (or_first _ _ (eq-eqb s s refl)))) (clear_by ws ss (λ u m. h u (or_second _ _ m)))

pub clear_at : (ws ss : List ℕ) (u : ℕ) → clear ws ss ≡ true → among u ss ≡ true → among u ws ≡ false
unfolding clear
clear_at ws ss u h m = not-true _ (all-among (λ q. not (among q ws)) ss u h m)

-- the same the other way round
pub clear_flip : (ws ss : List ℕ) → clear ws ss ≡ true → clear ss ws ≡ true
clear_flip ws ss h = clear_by ss ws (λ u m. is_false (among u ss) (λ n. true≢false (sym m ∙ clear_at ws ss u h n)))

pub clear_join : (ws vs ss : List ℕ) → clear ws ss ≡ true → clear vs ss ≡ true → clear (ws ++ vs) ss ≡ true
clear_join ws vs ss a b =
    clear_by (ws ++ vs) ss (λ u m. among-append u ws vs ∙ not_both _ _ (clear_at ws ss u a m) (clear_at vs ss u b m))

among-flat : {A : Type 0} (f : A → List ℕ) (xs : List A) (i : ℕ) (d : A) (u : ℕ) → i < length xs → among u (f (get_or xs i d)) ≡ true → among u (flat f xs) ≡ true
unfolding flat
among-flat f [] i d u l m = absurd (not-suc-le-zero l)
among-flat f (x ∷ xs) zero d u l m = among-append u (f x) (flat f xs) ∙ or_first _ _ m
among-flat f (x ∷ xs) (suc i) d u l m = among-append u (f x) (flat f xs) ∙ or_second _ _ (among-flat f xs i d u (le_of_suc-le-suc l) m)

module _ (v : List ℕ) (F : Facts v) where
  files : List ℕ
  files = flat (owned v) (entries v)

  dist : distinct (system v ++ files) ≡ true
  unfolding files all_owned
  dist = F.none_twice

  pub owned_member : (i u : ℕ) → i < 8 * dirs v → among u (owned v (entry_at v i)) ≡ true → among u (flat (owned v) (entries v)) ≡ true
  unfolding entry_at
  owned_member i u h m = among-flat (owned v) (entries v) i [] u (omega (arith, length-entries v)) m

  -- no file's sector is a system sector
  pub system_apart : (i : ℕ) → i < 8 * dirs v → clear (system v) (owned v (entry_at v i)) ≡ true
  unfolding files
  system_apart i h =
      clear_by (system v) (owned v (entry_at v i)) (λ u m.
      not-true _ (all-among (λ q. not (among q (system v))) files u (disjoint (system v) files dist) (owned_member i u h m)))

  -- nor two slots' sectors one
  pub slots_apart : (i j : ℕ) → i < 8 * dirs v → j < 8 * dirs v → i ≢ j → clear (owned v (entry_at v j)) (owned v (entry_at v i)) ≡ true
  unfolding entry_at files
  slots_apart i j hi hj n =
      let lj : j < length (entries v) = omega (arith, length-entries v) in
      let li : i < length (set (entries v) j (blanks 32)) = omega (arith, length-entries v, length-set (entries v) j (blanks 32)) in
      let s : Split (owned v) (owned v) (entries v) j [] (blanks 32) = split (owned v) (owned v) (entries v) j [] (blanks 32) lj (λ a b c. refl) in
      let d : distinct (s.before ++ (owned v (get_or (entries v) j []) ++ s.after)) ≡ true = rw s.was at (distinct_tail (system v) files dist) in
      clear_by (owned v (get_or (entries v) j [])) (owned v (get_or (entries v) i [])) (λ u m.
      is_false _ (λ q.
      let here : among u (owned v (get_or (set (entries v) j (blanks 32)) i [])) ≡ true = rw (get_or-set_other (entries v) j i (blanks 32) [] n) m in
      let inside : among u (s.before ++ (owned v (blanks 32) ++ s.after)) ≡ true = rw s.now_is at (among-flat (owned v) (set (entries v) j (blanks 32)) i [] u li here) in
      true≢false (sym (rw (owned-unused v (blanks 32) (zeros-blanks 32)) at inside) ∙ middle_apart s.before (owned v (get_or (entries v) j [])) s.after u d q)))

  -- the system sectors themselves
  pub sat_not_dir : among (sat_at v) (range (dir_at v) (dirs v)) ≡ false
  unfolding system layout_of system_of distinct among files
  sat_not_dir = among-append_left (sat_at v) (range (dir_at v) (dirs v)) files (or_right _ _ (not-true _ (and_left _ _ (and_right _ _ dist))))

  pub zero_not : (among 0 (range (dir_at v) (dirs v)) ≡ false) × (eqb 0 (sat_at v) ≡ false)
  unfolding system layout_of system_of distinct among files
  zero_not =
      let h = not-true _ (and_left _ _ dist) in
      (among-append_left 0 (range (dir_at v) (dirs v)) files (or_right _ _ (or_right _ _ h)), or_left _ _ h)

  pub last_not : (among (sectors v - 1) (range (dir_at v) (dirs v)) ≡ false) × (eqb (sectors v - 1) (sat_at v) ≡ false)
  unfolding system layout_of system_of distinct among files
  last_not =
      let r = and_right _ _ dist in (
        among-append_left (sectors v - 1) (range (dir_at v) (dirs v)) files (not-true _ (and_left _ _ (and_right _ _ r))),
        flip (sat_at v) (sectors v - 1) (or_left _ _ (not-true _ (and_left _ _ r))),
      )
    where
      flip : (a b : ℕ) → eqb a b ≡ false → eqb b a ≡ false
      flip a b h = ne_eqb b a (λ q. eqb-false a b h (sym q))
