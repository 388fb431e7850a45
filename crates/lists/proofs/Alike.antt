-- Two lists of one length, seen through functions that agree on them element by element.
use mathlib.Core.Path.{◌≡◌, refl}
use mathlib.Core.Bool.{Bool}
use mathlib.Core.List.{List, [], ◌∷◌}
use Prim.Native.Nat.{ℕ, suc, ◌<◌}
use native.Mathlib.Omega.{arith}
use lib.ListN.{length, get_or}
use Rattle.lists.specs.Lists.{all, flat}

module _ {A : Type 0} (d : A) where
  pub all_alike : (p q : A → Bool) (xs ys : List A) → length ys ≡ length xs → ((i : ℕ) → i < length xs → q (get_or ys i d) ≡ p (get_or xs i d))
      → all q ys ≡ all p xs
  unfolding all
  all_alike p q [] [] n h = refl
  all_alike p q [] (y ∷ ys) n h = absurd (omega arith)
  all_alike p q (x ∷ xs) [] n h = absurd (omega arith)
  all_alike p q (x ∷ xs) (y ∷ ys) n h = rw (h 0 (omega arith), all_alike p q xs ys (omega arith) (λ i l. h (suc i) (omega arith)))

  pub flat_alike : {B : Type 0} (f g : A → List B) (xs ys : List A) → length ys ≡ length xs → ((i : ℕ) → i < length xs → g (get_or ys i d) ≡ f (get_or xs i d))
      → flat g ys ≡ flat f xs
  unfolding flat
  flat_alike f g [] [] n h = refl
  flat_alike f g [] (y ∷ ys) n h = absurd (omega arith)
  flat_alike f g (x ∷ xs) [] n h = absurd (omega arith)
  flat_alike f g (x ∷ xs) (y ∷ ys) n h = rw (h 0 (omega arith), flat_alike f g xs ys (omega arith) (λ i l. h (suc i) (omega arith)))
