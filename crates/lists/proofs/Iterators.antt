-- The walks of these specs as the words in which the library's iterators state their results.
use mathlib.Core.Path.{◌≡◌, refl, sym, ap, ◌∙◌}
use mathlib.Core.Bool.{Bool, true, false, ◌&&◌, ◌||◌}
use mathlib.Core.List.{List, [], ◌∷◌}
use native.Mathlib.Omega.{arith}
use Rattle.std.specs.List.{list_all, list_any, position_or_len}
use Rattle.lists.specs.Lists.{all, some, index}
use Rattle.lists.proofs.Bools.{and_is, or_is}

module _ {A : Type 0} (p : A → Bool) where
  pub all_is : (xs : List A) → all p xs ≡ list_all p xs
  unfolding all
  all_is [] = refl
  all_is (x ∷ xs) = sym (and_is (p x) (all p xs)) ∙ ap (λ (b : Bool). p x && b) (all_is xs)

  pub some_is : (xs : List A) → some p xs ≡ list_any p xs
  unfolding some
  some_is [] = refl
  some_is (x ∷ xs) = sym (or_is (p x) (some p xs)) ∙ ap (λ (b : Bool). p x || b) (some_is xs)

  pub index_is : (xs : List A) → index p xs ≡ position_or_len p xs
  unfolding index
  index_is [] = refl
  index_is (x ∷ xs) = by (p x) refl (index_is xs)
    where
      by : (b : Bool) → p x ≡ b → index p xs ≡ position_or_len p xs → index p (x ∷ xs) ≡ position_or_len p (x ∷ xs)
      by true e h = rw (e, index)
      by false e h = rw (e, index) (omega arith)
