-- A stream's bytes by its runs: within a run they stand in the image side by side.
use mathlib.Core.Path.{◌≡◌, ap, sym, ◌∙◌}
use mathlib.Core.Bool.{true, false}
use mathlib.Core.List.{List}
use Prim.Native.Nat.{ℕ, zero, suc, ◌+◌, ◌-◌, ◌*◌, ◌/◌, ◌%◌, ◌<◌, ◌≤◌}
use native.Mathlib.Nat.{add-zero}
use native.Mathlib.Omega.{arith}
use native.Mathlib.Decide.{dec_le}
use lib.ListN.{length, get_or}
use borrow.Author.Tests.{eqb-true, eq-eqb, ne_eqb, lt-ltb, le-ltb, not-false}
use Rattle.lists.specs.Parts.{byte, word}
use Rattle.lists.proofs.Ranges.{first_skip, first_from, first_to}
use Rattle.lists.proofs.IndexFound.{first_before}
use Rattle.records.specs.declared.stream.Run.{Run}
use Rattle.records.specs.Streams.{laid_out}
use Rattle.records.specs.Code.Mapped.{Mapped}
use Rattle.records.specs.Code.Runs.{address_of, breaks_at, run_end, run_from}
use Rattle.records.proofs.StreamBytes.{laid_out_at, address_in}

-- one sector after the other
pub breaks_not : (ss : List ℕ) (j : ℕ) → get_or ss j 0 ≡ get_or ss (j - 1) 0 + 1 → breaks_at ss j ≡ false
unfolding breaks_at
breaks_not ss j h = rw (eq-eqb (get_or ss j 0) (get_or ss (j - 1) 0 + 1) h)

pub breaks_here : (ss : List ℕ) (j : ℕ) → (get_or ss j 0 ≡ get_or ss (j - 1) 0 + 1 → ⊥) → breaks_at ss j ≡ true
unfolding breaks_at
breaks_here ss j h = rw (ne_eqb (get_or ss j 0) (get_or ss (j - 1) 0 + 1) h)

follows : (ss : List ℕ) (j : ℕ) → breaks_at ss j ≡ false → get_or ss j 0 ≡ get_or ss (j - 1) 0 + 1
unfolding breaks_at
follows ss j e = eqb-true _ _ (not-false _ e)

-- the run of sector k of the map
module _ (ss : List ℕ) (k : ℕ) where
  run_past : k < run_end ss k
  unfolding run_end
  run_past = omega (arith, first_from (breaks_at ss) (k + 1) (length ss - (k + 1)))

  run_within : k < length ss → run_end ss k ≤ length ss
  unfolding run_end
  run_within h = omega (arith, first_to (breaks_at ss) (k + 1) (length ss - (k + 1)))

  unbroken : (j : ℕ) → k < j → j < run_end ss k → breaks_at ss j ≡ false
  unfolding run_end
  unbroken j h l = first_before (breaks_at ss) (k + 1) (length ss - (k + 1)) j (omega arith) l

  run_on : (x : ℕ) → k + x < run_end ss k → get_or ss (k + x) 0 ≡ get_or ss k 0 + x
  run_on zero h = rw (add-zero k, add-zero (get_or ss k 0))
  run_on (suc x) h =
      let f : get_or ss (k + suc x) 0 ≡ get_or ss (k + suc x - 1) 0 + 1 = follows ss (k + suc x) (unbroken (k + suc x) (omega arith) h) in
      let z : k + suc x - 1 ≡ k + x = omega arith in
      omega (arith, rw z at f, run_on x (omega arith))

  -- that of a later sector of it ends where it does
  run_same : k < length ss → (j : ℕ) → k ≤ j → j < run_end ss k → run_end ss j ≡ run_end ss k
  unfolding run_end
  run_same h j l m =
      sym (first_skip (breaks_at ss) (k + 1) (j + 1) (length ss) (omega arith) (omega (arith, run_within h)) (λ i a b. unbroken i (omega arith) (omega arith)))

pub run_some : (ss : List ℕ) (p : ℕ) → p / 256 < length ss → run_from ss p ≡ record { at = address_of ss p; end = 256 * run_end ss (p / 256) }
unfolding run_from
run_some ss p h = rw (lt-ltb (p / 256) (length ss) h)

pub run_none : (ss : List ℕ) (p : ℕ) → length ss ≤ p / 256 → run_from ss p ≡ record { at = 0; end = 0 }
unfolding run_from
run_none ss p h = rw (le-ltb (p / 256) (length ss) h)

module _ (ss : List ℕ) (p : ℕ) (r : Run) (is : r ≡ run_from ss p) where
  -- where the stream has a byte p
  module _ (here : p / 256 < length ss) where
    at_is : r.at ≡ address_of ss p
    at_is = ap (λ (x : Run). x.at) (is ∙ run_some ss p here)

    end_is : r.end ≡ 256 * run_end ss (p / 256)
    end_is = ap (λ (x : Run). x.end) (is ∙ run_some ss p here)

    run_starts : p < r.end
    run_starts = omega (arith, end_is, run_past ss (p / 256))

    run_ends : r.end ≤ 256 * length ss
    run_ends = omega (arith, end_is, run_within ss (p / 256) here)

  some : (d : ℕ) → p + d < r.end → p / 256 < length ss
  some d h = elim (dec_le (length ss) (p / 256)) [
    | yes g ↦ absurd (omega (arith, ap (λ (x : Run). x.end) (is ∙ run_none ss p g)))
    | no g ↦ omega arith
  ]

  -- the bytes of the run
  module _ (d : ℕ) (h : p + d < r.end) where
    pub run_address : r.at + d ≡ address_of ss (p + d)
    run_address =
        let here : p / 256 < length ss = some d h in
        let x : ℕ = (p + d) / 256 - p / 256 in
        let z : p / 256 + x ≡ (p + d) / 256 = omega arith in
        let e : get_or ss (p / 256 + x) 0 ≡ get_or ss (p / 256) 0 + x = run_on ss (p / 256) x (omega (arith, end_is here)) in
        omega (arith, at_is here, rw z at e)

    pub run_later : record { at = r.at + d; end = r.end } ≡ run_from ss (p + d)
    run_later =
        let here : p / 256 < length ss = some d h in
        let there : (p + d) / 256 < length ss = omega (arith, run_ends here) in
        let s : run_end ss ((p + d) / 256) ≡ run_end ss (p / 256) = run_same ss (p / 256) here ((p + d) / 256) (omega arith) (omega (arith, end_is here)) in
        let e : r.end ≡ 256 * run_end ss ((p + d) / 256) = omega (arith, end_is here) in
        rw (run_address, e) (sym (run_some ss (p + d) there))

  -- the same of a mapped stream
  module _ (img : List ℕ) (m : Mapped img ss) where
    pub run_inside : (d : ℕ) → p + d < r.end → r.at + d < length img
    run_inside d h = omega (arith, run_address d h, address_in img ss m (p + d) (omega (arith, run_ends (some d h))))

    run_byte : (d : ℕ) → p + d < r.end → byte img (r.at + d) ≡ byte (laid_out img ss) (p + d)
    run_byte d h = rw (run_address d h) (sym (laid_out_at img ss m (p + d) (omega (arith, run_ends (some d h)))))

    pub run_before : (d : ℕ) → 0 < d → p + d < r.end → byte img (r.at + d - 1) ≡ byte (laid_out img ss) (p + d - 1)
    run_before d o h =
        let y : r.at + d - 1 ≡ r.at + (d - 1) = omega arith in
        let z : p + d - 1 ≡ p + (d - 1) = omega arith in
        rw (y, z) (run_byte (d - 1) (omega arith))

    -- a word at an even place lies in one sector
    module _ (even : p % 2 ≡ 0) (here : p < 256 * length ss) where
      both : p + 1 < r.end
      both =
          let k : p / 256 < length ss = omega arith in
          omega (arith, end_is k, run_starts k)

      pub run_room : r.at + 2 ≤ length img
      run_room = omega (arith, run_inside 1 both)

      pub run_word : word img r.at ≡ word (laid_out img ss) p
      run_word =
          let a : byte img r.at ≡ byte (laid_out img ss) p = simp add-zero at (run_byte 0 (omega (arith, both))) in
          rw (a, run_byte 1 both)
