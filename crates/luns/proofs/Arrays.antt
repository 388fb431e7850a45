-- What owning an array of structs tells of its list: its length. `search needs` has this for numbers alone.
use mathlib.Core.Path.{◌≡◌, refl, ap, sym, ◌∙◌}
use mathlib.Core.List.{List, [], ◌∷◌, map}
use Prim.Native.Nat.{suc, ℕ}
use lib.ListN.{length}

length_mapped : (X Y : Type 0) (f : X → Y) (l : List X) → length (map f l) ≡ length l
length_mapped X Y f [] = refl
length_mapped X Y f (x ∷ xs) = ap suc (length_mapped X Y f xs)

pub length_of_map : (X Y : Type 0) (f : X → Y) (l : List X) (n : ℕ) → length (map f l) ≡ n → length l ≡ n
length_of_map X Y f l n e = sym (length_mapped X Y f l) ∙ e
