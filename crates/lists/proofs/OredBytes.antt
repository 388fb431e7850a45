-- Numbers put together by the code's `|`: the result is 0 where every one is.
use mathlib.Core.Path.{◌≡◌, refl, sym}
use mathlib.Core.Bool.{Bool, true}
use mathlib.Core.List.{List}
use Prim.Native.Nat.{ℕ, suc, ◌+◌, ◌<◌, ◌≤◌}
use native.Mathlib.Numerals.{add-one}
use native.Mathlib.Omega.{arith}
use lib.Bits.{bit_or, or_add_and, and_le_l, and_le_r}
use lib.ListN.{length, get_or, drop}
use lib.Seq.{drop-cons}
use lib.Dec.{eqb}
use borrow.Author.Tests.{eqb-true, eq-eqb}
use Rattle.lists.specs.Lists.{◌and◌, all}
use Rattle.lists.specs.Parts.{zeros}
use Rattle.lists.proofs.Bools.{agree, and_assoc, and-true}
use Rattle.lists.proofs.Tests.{and_left, and_right, both_true}
use Rattle.lists.proofs.Walks.{all_end}

pub true-and : (b : Bool) → true and b ≡ b
unfolding ◌and◌
true-and b = refl

pub or_zero : (a b : ℕ) → eqb (bit_or a b) 0 ≡ eqb a 0 and eqb b 0
or_zero a b = agree _ _ apart together
  where
    apart : eqb (bit_or a b) 0 ≡ true → eqb a 0 and eqb b 0 ≡ true
    apart e =
        let z : bit_or a b ≡ 0 = eqb-true _ _ e in
        both_true _ _ (eq-eqb a 0 (omega (arith, or_add_and a b, and_le_r a b))) (eq-eqb b 0 (omega (arith, or_add_and a b, and_le_l a b)))

    together : eqb a 0 and eqb b 0 ≡ true → eqb (bit_or a b) 0 ≡ true
    together e =
        let x : a ≡ 0 = eqb-true a 0 (and_left _ _ e) in
        let y : b ≡ 0 = eqb-true b 0 (and_right _ _ e) in
        eq-eqb (bit_or a b) 0 (omega (arith, or_add_and a b))

-- one element more of a list, and its end
pub or_more : (a : ℕ) (s : List ℕ) (i : ℕ) → i < length s → eqb a 0 and zeros (drop i s) ≡ eqb (bit_or a (get_or s i 0)) 0 and zeros (drop (i + 1) s)
unfolding all
or_more a s i h = rw (add-one, drop-cons s i 0 h, or_zero a (get_or s i 0)) (sym (and_assoc (eqb a 0) (eqb (get_or s i 0) 0) (zeros (drop (suc i) s))))

pub or_end : (a : ℕ) (s : List ℕ) (i : ℕ) → length s ≤ i → eqb a 0 and zeros (drop i s) ≡ eqb a 0
or_end a s i h = rw (all_end (λ x. eqb x 0) s i h) (and-true (eqb a 0))

-- for the loop of `all_zero`
pub ruleset ored_rules = (true-and, or_more, or_end)
