-- Where a search that goes up stops, by what it passes over.
use mathlib.Core.Path.{◌≡◌, refl, ◌∙◌}
use mathlib.Core.Bool.{Bool, true, false}
use Prim.Native.Nat.{ℕ, zero, suc, ◌+◌, ◌-◌, ◌<◌, ◌≤◌}
use native.Mathlib.Omega.{arith}
use Rattle.lists.specs.Lists.{first}
use Rattle.lists.proofs.FirstFound.{first_yes, first_end}
use Rattle.lists.proofs.Ranges.{first_skip}

module _ (p : ℕ → Bool) (a : ℕ) where
  pub found_at : (r e : ℕ) → a ≤ r → r < e → ((s : ℕ) → a ≤ s → s < r → p s ≡ false) → p r ≡ true → first p a (e - a) ≡ r
  found_at r e h g none here = first_skip p a r e h (omega arith) none ∙ first_yes p r e g here

  pub found_none : (e : ℕ) → a ≤ e → ((s : ℕ) → a ≤ s → s < e → p s ≡ false) → first p a (e - a) ≡ e
  found_none e h none = first_skip p a e e h (omega arith) none ∙ first_end p e e (omega arith)

-- two searches that test alike
pub first_same : (p q : ℕ → Bool) (a n : ℕ) → ((s : ℕ) → a ≤ s → s < a + n → p s ≡ q s) → first p a n ≡ first q a n
unfolding first
first_same p q a zero e = refl
first_same p q a (suc n) e = by (q a) (e a (omega arith) (omega arith)) refl (first_same p q (suc a) n (λ s l g. e s (omega arith) (omega arith)))
  where
    by : (b : Bool) → p a ≡ b → q a ≡ b → first p (suc a) n ≡ first q (suc a) n → first p a (suc n) ≡ first q a (suc n)
    by true t u r = rw (first, t, u)
    by false t u r = rw (first, t, u) r
