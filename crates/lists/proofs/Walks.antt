-- A loop that goes up a list: tests of its elements.
use mathlib.Core.Path.{◌≡◌, refl, ap, ◌∙◌}
use mathlib.Core.Bool.{Bool, true, false}
use mathlib.Core.List.{List, [], ◌∷◌, append-nil}
use Prim.Native.Nat.{ℕ, ◌+◌, ◌<◌, ◌≤◌}
use native.Mathlib.Numerals.{add-one}
use lib.ListN.{length, get_or, drop, drop_of_length-le}
use lib.Seq.{drop-cons}
use Rattle.lists.specs.Lists.{◌and◌, all}
use Rattle.lists.specs.Parts.{over}
use Rattle.lists.proofs.Bools.{and-false}

-- p passes at what is left as at the whole
module _ {A : Type 0} (p : A → Bool) (xs : List A) (d : A) (i : ℕ) where
  pub all_more : i < length xs → p (get_or xs i d) ≡ true → all p (drop i xs) ≡ all p (drop (i + 1) xs)
  unfolding all ◌and◌
  all_more h e = rw (add-one, drop-cons xs i d h, all, e)

  pub all_stop : i < length xs → p (get_or xs i d) ≡ false → all p (drop i xs) ≡ false
  unfolding all ◌and◌
  all_stop h e = rw (drop-cons xs i d h, all, e)

pub all_end : {A : Type 0} (p : A → Bool) (xs : List A) (i : ℕ) → length xs ≤ i → all p (drop i xs) ≡ true
unfolding all
all_end p xs i h = rw (drop_of_length-le xs h)

-- a part written over whole
pub over_all : (src part : List ℕ) → length part ≤ length src → over src part ≡ src
unfolding over
over_all src part h = rw (drop_of_length-le part h, append-nil)

pub all_yes : {A : Type 0} (p : A → Bool) (xs : List A) → ((x : A) → p x ≡ true) → all p xs ≡ true
unfolding all ◌and◌
all_yes p [] h = refl
all_yes p (x ∷ xs) h = rw (h x) (all_yes p xs h)

-- two tests of all are one test of all
pub all_both : {A : Type 0} (p q : A → Bool) (xs : List A) → all p xs and all q xs ≡ all (λ x. p x and q x) xs
unfolding all ◌and◌
all_both p q [] = refl
all_both p q (x ∷ xs) = both (p x) (q x) (all p xs) (all q xs) ∙ ap (λ (b : Bool). (p x and q x) and b) (all_both p q xs)
  where
    both : (a b c e : Bool) → (a and c) and (b and e) ≡ (a and b) and (c and e)
    both true true c e = refl
    both true false c e = and-false c
    both false b c e = refl
