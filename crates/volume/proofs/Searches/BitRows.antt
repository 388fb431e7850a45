-- Rows of set bits within a quad: what one is made of, and how two rows of m bits, s places apart, make one of m + s.
use mathlib.Core.Path.{◌≡◌, sym, ◌∙◌}
use mathlib.Core.Bool.{true, false, false≢true}
use Prim.Native.Nat.{ℕ, ◌+◌, ◌*◌, ◌%◌, ◌^◌, ◌≤◌, ◌<◌}
use native.Mathlib.Omega.{arith}
use native.Mathlib.Decide.{dec_lt}
use lib.Bits.{bit_and}
use lib.Dec.{leb}
use borrow.Author.Tests.{le-leb, leb-true}
use Rattle.lists.specs.Lists.{range, ◌and◌, all, first}
use Rattle.lists.proofs.Tests.{and_left, and_right, both_true, is_false}
use Rattle.lists.proofs.Bools.{agree}
use Rattle.lists.proofs.Ranges.{all_each}
use Rattle.volume.specs.Code.Searches.{bit_at, row_at}
use Rattle.volume.proofs.Bits.{range_each}
use Rattle.volume.proofs.Searches.NumberBits.{shifted_bit, shifted_out, and_bit, zero_bit}
use Rattle.volume.proofs.Searches.SearchStops.{found_none, first_same}

module _ (x : ℕ) where
  pub row_yes : (n k : ℕ) → k + n ≤ 64 → ((j : ℕ) → k ≤ j → j < k + n → bit_at 64 x j ≡ true) → row_at x n k ≡ true
  unfolding row_at
  row_yes n k h f = both_true _ _ (le-leb (k + n) 64 h) (all_each (bit_at 64 x) k n f)

  pub row_fits : (n k : ℕ) → row_at x n k ≡ true → k + n ≤ 64
  unfolding row_at
  row_fits n k e = leb-true (k + n) 64 (and_left _ _ e)

  pub row_bits : (n k : ℕ) → row_at x n k ≡ true → (j : ℕ) → k ≤ j → j < k + n → bit_at 64 x j ≡ true
  unfolding row_at
  row_bits n k e j h g = range_each (bit_at 64 x) k n (and_right (leb (k + n) 64) (all (bit_at 64 x) (range k n)) e) j h g

  pub row_one : (k : ℕ) → k < 64 → bit_at 64 x k ≡ row_at x 1 k
  row_one k h = agree _ _ (λ e. row_yes 1 k (omega arith) (λ j p q. let z : k ≡ j = omega arith in rw z at e)) (λ e. row_bits 1 k e k (omega arith) (omega arith))

  -- a longer row has each shorter one
  row_less : (m n k : ℕ) → m ≤ n → row_at x m k ≡ false → row_at x n k ≡ false
  row_less m n k h e = is_false _ (λ q. false≢true (sym e ∙ row_yes m k (omega (arith, row_fits n k q)) (λ j a b. row_bits n k q j a (omega arith))))

  pub row_long : (n k : ℕ) → 64 < n → row_at x n k ≡ false
  row_long n k h = is_false _ (λ q. absurd (omega (arith, row_fits n k q)))

  pub no_row : (n : ℕ) → ((k : ℕ) → k < 64 → row_at x n k ≡ false) → 64 ≡ first (row_at x n) 0 64
  no_row n f = sym (found_none (row_at x n) 0 64 (omega arith) (λ k p q. f k q))

  -- rows of m bits, as the bits of r
  module _ (m r : ℕ) (low : 1 ≤ m) (rows : (k : ℕ) → k < 64 → bit_at 64 r k ≡ row_at x m k) where
    pub row_join : (s k : ℕ) → s ≤ m → k < 64 → bit_at 64 (bit_and r (r * 2 ^ s % 2 ^ 64)) k ≡ row_at x (m + s) k
    row_join s k h g = and_bit 64 r (r * 2 ^ s % 2 ^ 64) k ∙ agree _ _ (λ e. up (and_left _ _ e) (and_right _ _ e)) down
      where
        up : bit_at 64 r k ≡ true → bit_at 64 (r * 2 ^ s % 2 ^ 64) k ≡ true → row_at x (m + s) k ≡ true
        up a b = elim (dec_lt (k + s) 64) [
          | yes l ↦
              let one = sym (rows k g) ∙ a in
              let two = sym (rows (k + s) l) ∙ sym (shifted_bit 64 r s k l) ∙ b in
              row_yes (m + s) k (omega (arith, row_fits m (k + s) two)) (λ j p q. elim (dec_lt j (k + m)) [
                | yes c ↦ row_bits m k one j p c
                | no c ↦ row_bits m (k + s) two j (omega arith) (omega arith)
              ])
          | no l ↦ absurd (false≢true (sym (shifted_out 64 r s k g (omega arith)) ∙ b))
        ]

        down : row_at x (m + s) k ≡ true → bit_at 64 r k and bit_at 64 (r * 2 ^ s % 2 ^ 64) k ≡ true
        down e =
            let f = row_fits (m + s) k e in
            both_true _ _ (rows k g ∙ row_yes m k (omega arith) (λ j p q. row_bits (m + s) k e j p (omega arith)))
            (shifted_bit 64 r s k (omega arith) ∙ rows (k + s) (omega arith) ∙ row_yes m (k + s) (omega arith) (λ j p q. row_bits (m + s) k e j (omega arith) (omega arith)))

    pub rows_none : (n : ℕ) → m ≤ n → r ≡ 0 → 64 ≡ first (row_at x n) 0 64
    rows_none n h z = no_row n (λ k g. row_less m n k h (sym (rows k g) ∙ zero_bit 64 r k z))

    pub rows_first : (n : ℕ) → m ≡ n → first (bit_at 64 r) 0 64 ≡ first (row_at x n) 0 64
    rows_first n e = rw e at (first_same (bit_at 64 r) (row_at x m) 0 64 (λ s p q. rows s q))
