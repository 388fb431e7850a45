-- The code's `==` on two slices of bytes is `same`.
use mathlib.Core.Path.{◌≡◌, refl, ap, ◌∙◌}
use mathlib.Core.Bool.{Bool}
use mathlib.Core.List.{List, [], ◌∷◌}
use Prim.Native.Nat.{ℕ}
use lib.Dec.{eqb}
use Rattle.std.specs.Cmp.Lexicographic.{pointwise}
use Rattle.lists.specs.Lists.{◌and◌, same}
use Rattle.lists.proofs.Bools.{and_is}

pub pointwise_same : (a b : List ℕ) → pointwise eqb a b ≡ same a b
unfolding same
pointwise_same [] [] = refl
pointwise_same [] (y ∷ b) = refl
pointwise_same (x ∷ a) [] = refl
pointwise_same (x ∷ a) (y ∷ b) = and_is (eqb x y) (pointwise eqb a b) ∙ ap (λ (t : Bool). eqb x y and t) (pointwise_same a b)

pub ruleset equal_rules = (pointwise_same)
