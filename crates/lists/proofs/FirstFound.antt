-- A search that goes up, one number at a time.
use mathlib.Core.Path.{◌≡◌, ap}
use mathlib.Core.Bool.{Bool, true, false}
use Prim.Native.Nat.{ℕ, suc, ◌+◌, ◌-◌, ◌<◌, ◌≤◌}
use native.Mathlib.Omega.{arith}
use Rattle.lists.specs.Lists.{first}

-- n - i is one more than n - (i + 1)
pub one_less : (i n : ℕ) → i < n → n - i ≡ suc (n - (i + 1))
one_less i n h = omega arith

module _ (p : ℕ → Bool) (i n : ℕ) (h : i < n) where
  pub first_yes : p i ≡ true → first p i (n - i) ≡ i
  unfolding first
  first_yes e = rw (one_less i n h, first, e)

  pub first_no : p i ≡ false → first p i (n - i) ≡ first p (i + 1) (n - (i + 1))
  unfolding first
  first_no e = let s : suc i ≡ i + 1 = omega arith in rw (one_less i n h, first, e) (ap (λ (k : ℕ). first p k (n - (i + 1))) s)

pub first_end : (p : ℕ → Bool) (i n : ℕ) → n ≤ i → first p i (n - i) ≡ i
unfolding first
first_end p i n h = let z : n - i ≡ 0 = omega arith in rw z
