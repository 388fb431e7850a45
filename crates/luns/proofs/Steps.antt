-- A test of each element, in the library's word.
use mathlib.Core.Path.{◌≡◌, refl}
use mathlib.Core.Bool.{Bool, true, false, ◌&&◌}
use mathlib.Core.List.{List, [], ◌∷◌}
use Rattle.std.specs.List.{list_all}
use Rattle.lists.specs.Lists.{◌and◌, all}

pub all_as : {A : Type 0} (p : A → Bool) (xs : List A) → all p xs ≡ list_all p xs
unfolding all ◌and◌
all_as p [] = refl
all_as p (x ∷ xs) = go (p x) (all_as p xs)
  where
    go : (b : Bool) → all p xs ≡ list_all p xs → b and all p xs ≡ (b && list_all p xs)
    go true e = e
    go false e = refl
