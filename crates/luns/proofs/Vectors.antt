-- Computed examples of this layer's definitions: an edit of a definition that breaks one is refused here.
use mathlib.Core.Path.{◌≡◌, refl}
use mathlib.Core.List.{List, [], ◌∷◌}
use Prim.Native.Nat.{ℕ}
use Rattle.lists.specs.Lists.{lists_open}
use Rattle.luns.specs.declared.Place.TheVariants.{Fresh, At}
use Rattle.luns.specs.Luns.{target, luns_open}

-- Next, Current, Prior and Random from Fresh and from sector 4 with 2 moved
targets : List ℕ
targets =
    target 0 9 Fresh ∷ target 3 9 Fresh ∷ target 0 9 (At 4 2) ∷ target 1 9 (At 4 2) ∷ target 2 9 (At 4 2) ∷ target 3 9 (At 4 2) ∷ []

targets_named : targets ≡ 0 ∷ 9 ∷ 6 ∷ 4 ∷ 3 ∷ 9 ∷ []
unfolding targets lists_open luns_open
targets_named = refl
