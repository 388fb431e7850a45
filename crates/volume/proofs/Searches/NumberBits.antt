-- The bits of a number of w binary digits, counted from the top: where the language's own counts find the first and the last one, and what
-- the complement, shifts, `&` and joining two numbers make of them. Each law holds for every width: 8 for a byte, 64 for a quad.
use mathlib.Core.Path.{◌≡◌, refl, sym, ap, ◌∙◌}
use mathlib.Core.Bool.{true, false, not, false≢true}
use mathlib.Core.Logic.{⊎_elim}
use Prim.Native.Nat.{ℕ, zero, suc, ◌+◌, ◌-◌, ◌*◌, ◌/◌, ◌%◌, ◌^◌, ◌≤◌, ◌<◌}
use native.Mathlib.Nat.{eq-zero-or-pos, lt_of_lt_of_le, sub-zero, sub-le, div-one, mod-lt}
use native.Mathlib.Decide.{dec_lt}
use native.Mathlib.Omega.{arith}
use lib.Bits.{bit_and}
use lib.Count.{count_leading_zeros, leading_of_zero, leading_top, leading_le, count_trailing_zeros, trailing_le, under}
use lib.Dec.{eqb}
use lib.Pow.{pow_pos, pow_mono, lt_of_le_ones}
use Rattle.lists.specs.Lists.{◌and◌, first}
use Rattle.lists.proofs.IndexFound.{first_holds, first_before}
use Rattle.volume.specs.Code.Searches.{bit_at, clear_at}
use Rattle.volume.proofs.Searches.SearchStops.{found_at, found_none, first_same}
use Rattle.volume.proofs.Searches.Digits.{digit, digit-lt, digit_none, digit_top, digit-mod, digit_up, digit_under, digit_down, digit_high, digit_low, digit_not, digit_and}

-- bit k is the digit that has as many below it as bits follow k
bit_is : (w x k m : ℕ) → w - (k + 1) ≡ m → bit_at w x k ≡ eqb (digit x m) 1
unfolding bit_at digit
bit_is w x k m e = ap (λ (n : ℕ). eqb (x / 2 ^ n % 2) 1) e

set_bit : (w x k m : ℕ) → w - (k + 1) ≡ m → digit x m ≡ 1 → bit_at w x k ≡ true
set_bit w x k m e d = bit_is w x k m e ∙ ap (λ (n : ℕ). eqb n 1) d

clear_bit : (w x k m : ℕ) → w - (k + 1) ≡ m → digit x m ≡ 0 → bit_at w x k ≡ false
clear_bit w x k m e d = bit_is w x k m e ∙ ap (λ (n : ℕ). eqb n 1) d

-- no count of zeros is above the width
pub counts_fit : (w x : ℕ) → (count_leading_zeros w x ≤ w) × (count_trailing_zeros w x ≤ w)
counts_fit w x = (leading_le w x, trailing_le w x)

-- the count of leading zeros is the place of the first set bit
pub leading_first : (w x : ℕ) → x < 2 ^ w → count_leading_zeros w x ≡ first (bit_at w x) 0 w
leading_first w x h = ⊎_elim of_zero of_some (eq-zero-or-pos x)
  where
    of_zero : x ≡ zero → count_leading_zeros w x ≡ first (bit_at w x) 0 w
    of_zero e =
        rw sub-zero at (ap (count_leading_zeros w) e ∙ leading_of_zero w
        ∙ sym (found_none (bit_at w x) 0 w (omega arith) (λ k l g. clear_bit w x k (w - (k + 1)) refl (digit_none x (w - (k + 1)) (rw e (pow_pos (w - (k + 1))))))))

    of_some : zero < x → count_leading_zeros w x ≡ first (bit_at w x) 0 w
    of_some p =
        let t = leading_top w x p h in
        rw sub-zero at (sym (found_at (bit_at w x) 0 (count_leading_zeros w x) w (omega arith) (omega (arith, t.1))
        (λ k l g. clear_bit w x k (w - (k + 1)) refl (digit_none x (w - (k + 1)) (lt_of_lt_of_le t.3 (pow_mono (omega (arith, t.1))))))
        (set_bit w x (count_leading_zeros w x) t.0 (omega (arith, t.1)) (digit_top x t.0 t.2 t.3))))

-- the count of trailing zeros: every digit below it is clear, and the digit there is set
digit-zero : (x : ℕ) → digit x 0 ≡ x % 2
unfolding digit
digit-zero x = ap (λ (n : ℕ). n % 2) (div-one x)

digit-suc : (x m : ℕ) → digit x (suc m) ≡ digit (x / 2) m
digit-suc x m = let e : suc m ≡ 1 + m = omega arith in ap (digit x) e ∙ sym (digit_down x 1 m)

trailing_digit : (w x m : ℕ) → m < count_trailing_zeros w x → digit x m ≡ 0
unfolding count_trailing_zeros
trailing_digit zero x m h = absurd (omega arith)
trailing_digit (suc w) x m h = by (x % 2) m refl h (trailing_digit w (x / 2))
  where
    by : (d m : ℕ) → x % 2 ≡ d → m < under d (count_trailing_zeros w (x / 2)) → ((n : ℕ) → n < count_trailing_zeros w (x / 2) → digit (x / 2) n ≡ 0) → digit x m ≡ 0
    by zero zero e l r = digit-zero x ∙ e
    by zero (suc n) e l r = digit-suc x n ∙ r n (omega arith)
    by (suc d) n e l r = absurd (omega arith)

trailing_top : (w x : ℕ) → count_trailing_zeros w x < w → digit x (count_trailing_zeros w x) ≡ 1
unfolding count_trailing_zeros
trailing_top zero x h = absurd (omega arith)
trailing_top (suc w) x h = by (x % 2) refl h (trailing_top w (x / 2))
  where
    by : (d : ℕ) → x % 2 ≡ d → under d (count_trailing_zeros w (x / 2)) < suc w → (count_trailing_zeros w (x / 2) < w → digit (x / 2) (count_trailing_zeros w (x / 2)) ≡ 1)
        → digit x (under d (count_trailing_zeros w (x / 2))) ≡ 1
    by zero e l r = digit-suc x (count_trailing_zeros w (x / 2)) ∙ r (omega arith)
    by (suc d) e l r = digit-zero x ∙ omega arith

pub trailing_clear : (w x k : ℕ) → k < w → w ≤ k + count_trailing_zeros w x → bit_at w x k ≡ false
trailing_clear w x k h g = clear_bit w x k (w - (k + 1)) refl (trailing_digit w x (w - (k + 1)) (omega arith))

pub trailing_set : (w x k : ℕ) → k + 1 + count_trailing_zeros w x ≡ w → bit_at w x k ≡ true
trailing_set w x k e = set_bit w x k (count_trailing_zeros w x) (omega arith) (trailing_top w x (omega arith))

-- the complement
flip : (d : ℕ) → d < 2 → eqb (1 - d) 1 ≡ not (eqb d 1)
flip zero h = refl
flip (suc zero) h = refl
flip (suc (suc d)) h = absurd (omega arith)

pub not_bit : (w x k : ℕ) → x < 2 ^ w → k < w → bit_at w ((2 ^ w - 1) - x) k ≡ not (bit_at w x k)
not_bit w x k h g =
    bit_is w ((2 ^ w - 1) - x) k (w - (k + 1)) refl ∙ ap (λ (n : ℕ). eqb n 1) (digit_not x w (w - (k + 1)) h (omega arith))
    ∙ flip (digit x (w - (k + 1))) (digit-lt x (w - (k + 1))) ∙ ap not (sym (bit_is w x k (w - (k + 1)) refl))

-- a shift up by s: bit k + s comes to k, and nothing to the last s
pub shifted_bit : (w x s k : ℕ) → k + s < w → bit_at w (x * 2 ^ s % 2 ^ w) k ≡ bit_at w x (k + s)
shifted_bit w x s k h =
    bit_is w (x * 2 ^ s % 2 ^ w) k (s + (w - (k + s + 1))) (omega arith)
    ∙ ap (λ (n : ℕ). eqb n 1) (digit-mod (x * 2 ^ s) w (s + (w - (k + s + 1))) (omega arith) ∙ digit_up x s (w - (k + s + 1)))
    ∙ sym (bit_is w x (k + s) (w - (k + s + 1)) refl)

pub shifted_out : (w x s k : ℕ) → k < w → w ≤ k + s → bit_at w (x * 2 ^ s % 2 ^ w) k ≡ false
shifted_out w x s k h g =
    clear_bit w (x * 2 ^ s % 2 ^ w) k (w - (k + 1)) refl (digit-mod (x * 2 ^ s) w (w - (k + 1)) (omega arith) ∙ digit_under x s (w - (k + 1)) (omega arith))

-- no bit of 0 is set
pub zero_bit : (w x k : ℕ) → x ≡ 0 → bit_at w x k ≡ false
zero_bit w x k e = clear_bit w x k (w - (k + 1)) refl (digit_none x (w - (k + 1)) (rw e (pow_pos (w - (k + 1)))))

-- the first set bit from k on: where the bits before it are shifted out and something is left, the count of its leading zeros
module _ (w x k : ℕ) (h : k < w) where
  moved : (s : ℕ) → k ≤ s → s < w → bit_at w x s ≡ bit_at w (x * 2 ^ k % 2 ^ w) (s - k)
  moved s l g =
      let e : s ≡ s - k + k = omega arith in
      ap (bit_at w x) e ∙ sym (shifted_bit w x k (s - k) (omega arith))

  none_from : x * 2 ^ k % 2 ^ w ≡ 0 → first (bit_at w x) k (w - k) ≡ w
  none_from z = found_none (bit_at w x) k w (omega arith) (λ s l g. moved s l g ∙ zero_bit w (x * 2 ^ k % 2 ^ w) (s - k) z)

  leading_from : (x * 2 ^ k % 2 ^ w ≡ 0 → ⊥) → first (bit_at w x) k (w - k) ≡ k + count_leading_zeros w (x * 2 ^ k % 2 ^ w)
  leading_from z = found_at (bit_at w x) k (k + n) w (omega arith) inside before here
    where
      rest : ℕ
      rest = x * 2 ^ k % 2 ^ w

      n : ℕ
      n = count_leading_zeros w rest

      is : n ≡ first (bit_at w rest) 0 w
      is = leading_first w rest (mod-lt (x * 2 ^ k) (pow_pos w))

      short : n < w
      short = ⊎_elim (λ e. absurd (z e)) (λ p. let t = leading_top w rest p (mod-lt (x * 2 ^ k) (pow_pos w)) in omega (arith, t.1)) (eq-zero-or-pos rest)

      set : bit_at w rest n ≡ true
      set = rw (← is) at (first_holds (bit_at w rest) 0 w (omega (arith, is, short)))

      inside : k + n < w
      inside = elim (dec_lt (k + n) w) [
        | yes l ↦ l
        | no g ↦ absurd (false≢true (sym (shifted_out w x k n short (omega arith)) ∙ set))
      ]

      before : (s : ℕ) → k ≤ s → s < k + n → bit_at w x s ≡ false
      before s l g = moved s l (omega (arith, inside)) ∙ first_before (bit_at w rest) 0 w (s - k) (omega arith) (omega (arith, is))

      here : bit_at w x (k + n) ≡ true
      here = let e : k + n - k ≡ n = omega arith in moved (k + n) (omega arith) inside ∙ ap (bit_at w rest) e ∙ set

-- the first clear bit: as many zeros lead the complement. From k on, with the bits before it shifted out
pub first_clear : (w x : ℕ) → x < 2 ^ w → count_leading_zeros w ((2 ^ w - 1) - x) ≡ first (clear_at w x) 0 w
unfolding clear_at
first_clear w x h =
    leading_first w ((2 ^ w - 1) - x) (lt_of_le_ones w (sub-le (2 ^ w - 1) x))
    ∙ first_same (bit_at w ((2 ^ w - 1) - x)) (clear_at w x) 0 w (λ s l g. not_bit w x s h (omega arith))

module _ (w x k : ℕ) (h : x < 2 ^ w) (g : k < w) where
  turned : first (bit_at w ((2 ^ w - 1) - x)) k (w - k) ≡ first (clear_at w x) k (w - k)
  unfolding clear_at
  turned = first_same (bit_at w ((2 ^ w - 1) - x)) (clear_at w x) k (w - k) (λ s l m. not_bit w x s h (omega arith))

  pub clear_none : ((2 ^ w - 1) - x) * 2 ^ k % 2 ^ w ≡ 0 → w ≡ first (clear_at w x) k (w - k)
  clear_none z = sym (none_from w ((2 ^ w - 1) - x) k g z) ∙ turned

  pub clear_from : (((2 ^ w - 1) - x) * 2 ^ k % 2 ^ w ≡ 0 → ⊥) → k + count_leading_zeros w (((2 ^ w - 1) - x) * 2 ^ k % 2 ^ w) ≡ first (clear_at w x) k (w - k)
  clear_from z = sym (leading_from w ((2 ^ w - 1) - x) k g z) ∙ turned

-- a shift down that leaves the first r
pub first_bits : (w r x k : ℕ) → r ≤ w → k < r → bit_at r (x / 2 ^ (w - r)) k ≡ bit_at w x k
first_bits w r x k h g =
    bit_is r (x / 2 ^ (w - r)) k (r - (k + 1)) refl ∙ ap (λ (n : ℕ). eqb n 1) (digit_down x (w - r) (r - (k + 1)))
    ∙ sym (bit_is w x k (w - r + (r - (k + 1))) (omega arith))

-- `&`
both : (d e : ℕ) → d < 2 → e < 2 → eqb (bit_and d e) 1 ≡ eqb d 1 and eqb e 1
unfolding ◌and◌
both zero zero h g = refl
both zero (suc zero) h g = refl
both (suc zero) zero h g = refl
both (suc zero) (suc zero) h g = refl
both (suc (suc d)) e h g = absurd (omega arith)
both zero (suc (suc e)) h g = absurd (omega arith)
both (suc zero) (suc (suc e)) h g = absurd (omega arith)

pub and_bit : (w x y k : ℕ) → bit_at w (bit_and x y) k ≡ bit_at w x k and bit_at w y k
and_bit w x y k =
    let m = w - (k + 1) in
    bit_is w (bit_and x y) k m refl ∙ ap (λ (n : ℕ). eqb n 1) (digit_and x y m) ∙ both (digit x m) (digit y m) (digit-lt x m) (digit-lt y m)
    ∙ rw (bit_is w x k m refl, bit_is w y k m refl)

-- a number of u bits and one of v bits after it
pub high_bit : (u v x y k : ℕ) → y < 2 ^ v → k < u → bit_at (u + v) (x * 2 ^ v + y) k ≡ bit_at u x k
high_bit u v x y k h g =
    bit_is (u + v) (x * 2 ^ v + y) k (v + (u - (k + 1))) (omega arith) ∙ ap (λ (n : ℕ). eqb n 1) (digit_high x v y (u - (k + 1)) h)
    ∙ sym (bit_is u x k (u - (k + 1)) refl)

pub low_bit : (u v x y k : ℕ) → y < 2 ^ v → k < v → bit_at (u + v) (x * 2 ^ v + y) (u + k) ≡ bit_at v y k
low_bit u v x y k h g =
    bit_is (u + v) (x * 2 ^ v + y) (u + k) (v - (k + 1)) (omega arith) ∙ ap (λ (n : ℕ). eqb n 1) (digit_low x v y (v - (k + 1)) h (omega arith))
    ∙ sym (bit_is v y k (v - (k + 1)) refl)
