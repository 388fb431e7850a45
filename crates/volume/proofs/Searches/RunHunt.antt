-- The hunt for n free sectors in a row: which starts are ruled out, when the lowest one is found, and when there is none.
use mathlib.Core.Path.{◌≡◌, sym, ap, ◌∙◌}
use mathlib.Core.List.{List}
use mathlib.Core.Bool.{Bool, true, false}
use Prim.Native.Nat.{ℕ, ◌+◌, ◌<◌, ◌≤◌}
use native.Mathlib.Nat.{sub-zero}
use native.Mathlib.Omega.{arith}
use native.Mathlib.Decide.{dec_lt}
use lib.Dec.{leb}
use borrow.Author.Tests.{le-leb, lt-leb}
use Rattle.lists.specs.Lists.{range, ◌and◌, first, all}
use Rattle.lists.proofs.Ranges.{all_each, all_not}
use Rattle.lists.proofs.Tests.{and_right, both_true}
use Rattle.lists.proofs.Bools.{and-false}
use Rattle.volume.specs.Sat.{is_free, run_at}
use Rattle.volume.proofs.Bits.{range_each}
use Rattle.volume.proofs.Searches.SearchStops.{found_at, found_none}

module _ (b : List ℕ) (t n : ℕ) where
  run_yes : (s : ℕ) → s + n ≤ t → ((k : ℕ) → s ≤ k → k < s + n → is_free b k ≡ true) → run_at b t n s ≡ true
  unfolding run_at
  run_yes s h f = both_true _ _ (le-leb (s + n) t h) (all_each (is_free b) s n f)

  pub run_not : (s i : ℕ) → s ≤ i → i < s + n → is_free b i ≡ false → run_at b t n s ≡ false
  unfolding run_at
  run_not s i h g e = ap (λ (x : Bool). leb (s + n) t and x) (all_not (is_free b) s n i h g e) ∙ and-false (leb (s + n) t)

  run_late : (s : ℕ) → t < s + n → run_at b t n s ≡ false
  unfolding run_at ◌and◌
  run_late s h = rw (lt-leb (s + n) t h)

  pub run_each : (s : ℕ) → run_at b t n s ≡ true → (k : ℕ) → s ≤ k → k < s + n → is_free b k ≡ true
  unfolding run_at
  run_each s e k h g = range_each (is_free b) s n (and_right (leb (s + n) t) (all (is_free b) (range s n)) e) k h g

  -- no run starts below s; nor below i + 1, where a run from s on would go over the mark of i
  abbrev pub None : ℕ → Type 0
  None s = (k : ℕ) → k < s → run_at b t n k ≡ false

  pub None-over : (s i : ℕ) → None s → i < s + n → is_free b i ≡ false → None (i + 1)
  None-over s i none g e k h = elim (dec_lt k s) [
    | yes l ↦ none k l
    | no l ↦ run_not k i (omega arith) (omega arith) e
  ]

  -- then a run that starts at s is the lowest, and there is none where it would end past the end
  pub lowest_at : (s : ℕ) → s < t → s + n ≤ t → None s → ((k : ℕ) → s ≤ k → k < s + n → is_free b k ≡ true) → s ≡ first (run_at b t n) 0 t
  lowest_at s l h none f = sym (rw sub-zero at (found_at (run_at b t n) 0 s t (omega arith) l (λ k a g. none k g) (run_yes s h f)))

  pub lowest_None : (s : ℕ) → t < s + n → None s → t ≡ first (run_at b t n) 0 t
  lowest_None s h none = sym (rw sub-zero at (found_none (run_at b t n) 0 t (omega arith) (λ k a g. elim (dec_lt k s) [
    | yes l ↦ none k l
    | no l ↦ run_late k (omega arith)
  ])))
