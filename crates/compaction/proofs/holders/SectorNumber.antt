-- The number that a sector has in its file, found segment by segment.
use mathlib.Core.Path.{◌≡◌, ◌∙◌}
use mathlib.Core.List.{List, [], ◌++◌}
use Prim.Native.Nat.{ℕ, zero, suc, ◌+◌, ◌-◌, ◌<◌, ◌≤◌}
use native.Mathlib.Omega.{arith}
use native.Mathlib.Decide.{dec_lt}
use lib.ListN.{length, get_or, drop}
use lib.Dec.{eqb}
use borrow.Author.Tests.{eq-eqb, ne_eqb}
use Rattle.lists.specs.Lists.{range, flat, index}
use Rattle.lists.proofs.IndexFound.{index_here, index_later}
use Rattle.ownership.specs.Blocks.{segment}
use Rattle.ownership.proofs.ClaimsFollow.{flat_cons, flat_end}

module _ (h : ℕ) where
  -- in a run: as far in as it is above the run's first
  index_in : (s n : ℕ) (rest : List ℕ) → s ≤ h → h < s + n → index (eqb h) (range s n ++ rest) ≡ h - s
  unfolding range
  index_in s zero rest a b = absurd (omega arith)
  index_in s (suc n) rest a b = elim (dec_lt s h) [
    | yes m ↦ index_later (eqb h) s _ (ne_eqb h s (λ e. omega arith)) ∙ omega (arith, index_in (suc s) n rest (omega arith) (omega arith))
    | no m ↦ index_here (eqb h) s _ (eq-eqb h s (omega arith)) ∙ omega arith
  ]

  -- after it: past the whole of it
  index_past : (s n : ℕ) (rest : List ℕ) → (s ≤ h → h < s + n → ⊥) → index (eqb h) (range s n ++ rest) ≡ n + index (eqb h) rest
  unfolding range
  index_past s zero rest f = omega arith
  index_past s (suc n) rest f =
      index_later (eqb h) s _ (ne_eqb h s (λ e. f (omega arith) (omega arith)))
      ∙ omega (arith, index_past (suc s) n rest (λ a b. f (omega arith) (omega arith)))

  -- the segments from i on
  module _ (ps : List (List ℕ)) (i s n : ℕ) (l : i < length ps) (e : range s n ≡ segment (get_or ps i [])) where
    pub number_here : s ≤ h → h < s + n → index (eqb h) (flat segment (drop i ps)) ≡ h - s
    number_here a b = rw (flat_cons segment ps [] i l, ← e) (index_in s n _ a b)

    pub number_later : (s ≤ h → h < s + n → ⊥) → index (eqb h) (flat segment (drop i ps)) ≡ n + index (eqb h) (flat segment (drop (i + 1) ps))
    number_later f = rw (flat_cons segment ps [] i l, ← e) (index_past s n _ f)

  pub number_end : (ps : List (List ℕ)) (i : ℕ) → length ps ≤ i → index (eqb h) (flat segment (drop i ps)) ≡ 0
  unfolding index
  number_end ps i l = rw (flat_end segment ps [] i l)
