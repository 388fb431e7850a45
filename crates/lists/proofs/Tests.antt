-- What a test that passed says.
use mathlib.Core.Path.{◌≡◌, refl, sym}
use mathlib.Core.Bool.{Bool, true, false, true≢false}
use mathlib.Core.List.{List, [], ◌∷◌}
use Prim.Native.Nat.{ℕ, zero, suc}
use lib.ListN.{length, replicate}
use lib.Dec.{eqb}
use borrow.Author.Tests.{eqb-true}
use Rattle.lists.specs.Lists.{◌and◌, ◌or◌, all}
use Rattle.lists.specs.Parts.{zeros, blanks}

pub and_left : (a b : Bool) → a and b ≡ true → a ≡ true
unfolding ◌and◌ ◌or◌
and_left true b e = refl
and_left false b e = e

pub and_right : (a b : Bool) → a and b ≡ true → b ≡ true
unfolding ◌and◌ ◌or◌
and_right true b e = e
and_right false b e = absurd (true≢false (sym e))

pub or_left : (a b : Bool) → a or b ≡ false → a ≡ false
unfolding ◌or◌
or_left true b e = e
or_left false b e = refl

pub or_right : (a b : Bool) → a or b ≡ false → b ≡ false
unfolding ◌or◌
or_right true b e = absurd (true≢false e)
or_right false b e = e

pub not_both : (a b : Bool) → a ≡ false → b ≡ false → a or b ≡ false
unfolding ◌or◌
not_both a b p q = rw (p, q)

pub or_cases : (a b : Bool) → a or b ≡ true → a ≡ false → b ≡ true
unfolding ◌or◌
or_cases true b e p = absurd (true≢false p)
or_cases false b e p = e

pub or_first : (a b : Bool) → a ≡ true → a or b ≡ true
unfolding ◌or◌
or_first a b p = rw p

pub or_second : (a b : Bool) → b ≡ true → a or b ≡ true
unfolding ◌or◌
or_second true b p = refl
or_second false b p = p

pub is_false : (b : Bool) → (b ≡ true → ⊥) → b ≡ false
is_false true f = absurd (f refl)
is_false false f = refl

pub both_true : (a b : Bool) → a ≡ true → b ≡ true → a and b ≡ true
unfolding ◌and◌ ◌or◌
both_true a b p q = rw (p, q)

pub zeros_are : (s : List ℕ) → zeros s ≡ true → s ≡ replicate (length s) 0
unfolding all ◌and◌ ◌or◌
zeros_are [] e = refl
zeros_are (x ∷ s) e =
    let p : x ≡ 0 = eqb-true x 0 (and_left (eqb x 0) (zeros s) e) in
    let q : s ≡ replicate (length s) 0 = zeros_are s (and_right (eqb x 0) (zeros s) e) in
    cc

pub zeros-blanks : (n : ℕ) → zeros (blanks n) ≡ true
unfolding all blanks ◌and◌
zeros-blanks zero = refl
zeros-blanks (suc n) = zeros-blanks n
