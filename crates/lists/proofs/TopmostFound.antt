-- A search that goes down, one number at a time: the highest number at which a test passes.
use mathlib.Core.Path.{◌≡◌, refl, sym, ap, ◌∙◌}
use mathlib.Core.Bool.{Bool, true, false, true≢false}
use Prim.Native.Nat.{ℕ, zero, suc, ◌-◌, ◌<◌, ◌≤◌}
use native.Mathlib.Omega.{arith}
use native.Mathlib.Decide.{dec_lt}
use Rattle.lists.specs.Lists.{topmost}

module _ (p : ℕ → Bool) where
  -- the last number decides, or those before it
  topmost_here : (n : ℕ) → p n ≡ true → topmost p (suc n) ≡ n
  unfolding topmost
  topmost_here n e = rw (topmost, e)

  topmost_later : (n : ℕ) → p n ≡ false → topmost p (suc n) ≡ topmost p n
  unfolding topmost
  topmost_later n e = rw (topmost, e)

  -- the same as a loop goes
  pub topmost_yes : (n : ℕ) → 0 < n → p (n - 1) ≡ true → topmost p n ≡ n - 1
  topmost_yes n h e = let z : n ≡ suc (n - 1) = omega arith in ap (topmost p) z ∙ topmost_here (n - 1) e

  pub topmost_no : (n : ℕ) → 0 < n → p (n - 1) ≡ false → topmost p n ≡ topmost p (n - 1)
  topmost_no n h e = let z : n ≡ suc (n - 1) = omega arith in ap (topmost p) z ∙ topmost_later (n - 1) e

  pub topmost_end : topmost p 0 ≡ 0
  unfolding topmost
  topmost_end = refl

  -- it is one of the numbers, or 0
  pub topmost_most : (n : ℕ) → topmost p n ≤ n
  unfolding topmost
  topmost_most zero = omega arith
  topmost_most (suc n) = by (p n) refl (topmost_most n)
    where
      by : (b : Bool) → p n ≡ b → topmost p n ≤ n → topmost p (suc n) ≤ suc n
      by true e r = omega (arith, topmost_here n e)
      by false e r = omega (arith, topmost_later n e)

  pub topmost_below : (n : ℕ) → 0 < n → topmost p n < n
  topmost_below zero h = absurd (omega arith)
  topmost_below (suc n) h = by (p n) refl
    where
      by : (b : Bool) → p n ≡ b → topmost p (suc n) < suc n
      by true e = omega (arith, topmost_here n e)
      by false e = omega (arith, topmost_later n e, topmost_most n)

  -- the test passes there, and at none above
  pub topmost_holds : (n : ℕ) → 0 < topmost p n → p (topmost p n) ≡ true
  unfolding topmost
  topmost_holds zero h = absurd (omega arith)
  topmost_holds (suc n) h = by (p n) refl (topmost_holds n)
    where
      by : (b : Bool) → p n ≡ b → (0 < topmost p n → p (topmost p n) ≡ true) → p (topmost p (suc n)) ≡ true
      by true e r = rw (topmost_here n e) e
      by false e r = rw (topmost_later n e) (r (omega (arith, topmost_later n e)))

  pub topmost_above : (n x : ℕ) → topmost p n < x → x < n → p x ≡ false
  topmost_above zero x h l = absurd (omega arith)
  topmost_above (suc n) x h l = by (p n) refl (topmost_above n x)
    where
      by : (b : Bool) → p n ≡ b → (topmost p n < x → x < n → p x ≡ false) → p x ≡ false
      by true e r = absurd (omega (arith, topmost_here n e))
      by false e r = elim (dec_lt x n) [
        | yes m ↦ r (omega (arith, topmost_later n e)) m
        | no m ↦ let q : x ≡ n = omega arith in rw q e
      ]

  -- so it is no lower than any at which the test passes
  pub topmost_least : (n x : ℕ) → x < n → p x ≡ true → x ≤ topmost p n
  topmost_least n x l e = elim (dec_lt (topmost p n) x) [
    | yes m ↦ absurd (true≢false (sym e ∙ topmost_above n x m l))
    | no m ↦ omega arith
  ]

  -- numbers at the end that fail are passed over
  pub topmost_shrink : (h n : ℕ) → h ≤ n → ((x : ℕ) → h ≤ x → x < n → p x ≡ false) → topmost p n ≡ topmost p h
  topmost_shrink h zero l f = let z : 0 ≡ h = omega arith in ap (topmost p) z
  topmost_shrink h (suc n) l f = elim (dec_lt n h) [
    | yes m ↦ let z : suc n ≡ h = omega arith in ap (topmost p) z
    | no m ↦ topmost_later n (f n (omega arith) (omega arith)) ∙ topmost_shrink h n (omega arith) (λ x a b. f x a (omega arith))
  ]

-- two tests that agree
pub topmost_same : (p q : ℕ → Bool) (n : ℕ) → ((x : ℕ) → x < n → p x ≡ q x) → topmost p n ≡ topmost q n
unfolding topmost
topmost_same p q zero f = refl
topmost_same p q (suc n) f = by (q n) refl (topmost_same p q n (λ x l. f x (omega arith)))
  where
    by : (b : Bool) → q n ≡ b → topmost p n ≡ topmost q n → topmost p (suc n) ≡ topmost q (suc n)
    by true e r = topmost_here p n (f n (omega arith) ∙ e) ∙ sym (topmost_here q n e)
    by false e r = topmost_later p n (f n (omega arith) ∙ e) ∙ r ∙ sym (topmost_later q n e)
