-- Laws of `and` and `or`; the code's `&` and `|` are these.
use mathlib.Core.Path.{◌≡◌, refl, ◌∙◌, sym}
use mathlib.Core.Bool.{Bool, true, false, ◌&&◌, ◌||◌}
use Rattle.lists.specs.Lists.{◌and◌, ◌or◌}

pub and_is : (a b : Bool) → a && b ≡ a and b
unfolding ◌and◌
and_is true b = refl
and_is false b = refl

pub or_is : (a b : Bool) → a || b ≡ a or b
unfolding ◌or◌
or_is true b = refl
or_is false b = refl

pub and-false : (a : Bool) → a and false ≡ false
unfolding ◌and◌
and-false true = refl
and-false false = refl

pub and-true : (a : Bool) → a and true ≡ a
unfolding ◌and◌
and-true true = refl
and-true false = refl

pub and_assoc : (a b c : Bool) → a and b and c ≡ a and (b and c)
unfolding ◌and◌
and_assoc true b c = refl
and_assoc false b c = refl

pub or-false : (a : Bool) → a or false ≡ a
unfolding ◌or◌
or-false true = refl
or-false false = refl

-- the same of two tests that are known
pub and_of : {a b x y : Bool} → a ≡ x → b ≡ y → a && b ≡ x and y
and_of {a} {b} p q = and_is a b ∙ rw (p, q)

pub or_of : {a b x y : Bool} → a ≡ x → b ≡ y → a || b ≡ x or y
or_of {a} {b} p q = or_is a b ∙ rw (p, q)

-- two tests that pass together are one
pub agree : (a b : Bool) → (a ≡ true → b ≡ true) → (b ≡ true → a ≡ true) → a ≡ b
agree true b f g = sym (f refl)
agree false true f g = g refl
agree false false f g = refl
