-- A list of numbers without repeats, one of which is replaced by a number that it lacks: what is in it, that none stands twice, and the same in
-- the middle of a longer list.
use Rattle.std.specs.Prelude.{if◌then◌else◌}
use mathlib.Core.Path.{◌≡◌, refl, ap, sym, ◌∙◌}
use mathlib.Core.Bool.{Bool, true, false, not, true≢false}
use mathlib.Core.List.{List, [], ◌∷◌, ◌++◌}
use Prim.Native.Nat.{ℕ, zero, suc, ◌+◌, ◌-◌, ◌≤◌, ◌<◌}
use native.Mathlib.Nat.{not-suc-le-zero, le_of_suc-le-suc}
use native.Mathlib.Omega.{arith}
use lib.Dec.{eqb}
use lib.ListN.{length, get_or, set, get_or-append}
use lib.Seq.{set-append_left, get_or-append-add}
use borrow.Author.Tests.{ne_eqb, eqb-true, eqb-false, not-true}
use Rattle.lists.specs.Lists.{◌or◌, flat, among, distinct}
use Rattle.lists.proofs.Members.{among_at}
use Rattle.lists.proofs.Tests.{and_left, and_right, both_true, or_left, or_right, not_both}

-- neither an old number nor the new one
among-set_out : (xs : List ℕ) (n q u : ℕ) → among u xs ≡ false → eqb u q ≡ false → among u (set xs n q) ≡ false
unfolding among
among-set_out [] n q u h e = refl
among-set_out (x ∷ xs) zero q u h e = not_both _ _ e (or_right _ _ h)
among-set_out (x ∷ xs) (suc n) q u h e = not_both _ _ (or_left _ _ h) (among-set_out xs n q u (or_right _ _ h) e)

pub distinct-set : (xs : List ℕ) (n q : ℕ) → distinct xs ≡ true → among q xs ≡ false → distinct (set xs n q) ≡ true
unfolding distinct among
distinct-set [] n q d h = refl
distinct-set (x ∷ xs) zero q d h = both_true _ _ (ap not (or_right _ _ h)) (and_right _ _ d)
distinct-set (x ∷ xs) (suc n) q d h =
    let ne : eqb x q ≡ false = ne_eqb x q (λ z. eqb-false q x (or_left _ _ h) (sym z)) in
    both_true _ _ (ap not (among-set_out xs n q x (not-true _ (and_left _ _ d)) ne)) (distinct-set xs n q (and_right _ _ d) (or_right _ _ h))

-- the new number is in, the replaced one is out, and the others are as they were
pub among-set : (xs : List ℕ) (n q u : ℕ) → distinct xs ≡ true → n < length xs
    → among u (set xs n q) ≡ (if eqb u q then true else (if eqb u (get_or xs n 0) then false else among u xs))
unfolding distinct among ◌or◌
among-set [] n q u d h = absurd (not-suc-le-zero h)
among-set (x ∷ xs) zero q u d h = by (eqb u q) (eqb u x) refl
  where
    by : (a b : Bool) → eqb u x ≡ b → a or among u xs ≡ (if a then true else (if b then false else (b or among u xs)))
    by true b e = refl
    by false true e = ap (λ (y : ℕ). among y xs) (eqb-true u x e) ∙ not-true _ (and_left _ _ d)
    by false false e = refl
among-set (x ∷ xs) (suc n) q u d h =
    ap (λ (b : Bool). eqb u x or b) (among-set xs n q u (and_right _ _ d) (le_of_suc-le-suc h)) ∙ by (eqb u q) (eqb u x) (eqb u (get_or xs n 0)) refl refl
  where
    by : (a b c : Bool) → eqb u x ≡ b → eqb u (get_or xs n 0) ≡ c
        → b or (if a then true else (if c then false else among u xs)) ≡ (if a then true else (if c then false else (b or among u xs)))
    by true true c e f = refl
    by true false c e f = refl
    by false true true e f =
        absurd (true≢false (sym (among_at xs n (le_of_suc-le-suc h)) ∙ ap (λ (y : ℕ). among y xs) (sym (eqb-true _ _ f) ∙ eqb-true _ _ e) ∙ not-true _ (and_left _ _ d)))
    by false true false e f = refl
    by false false c e f = refl

-- in the second of two lists, and in the middle of three
pub set-append_right : (a b : List ℕ) (i q : ℕ) → length a ≤ i → set (a ++ b) i q ≡ a ++ set b (i - length a) q
set-append_right [] b i q h = let z : i - 0 ≡ i = omega arith in rw z
set-append_right (x ∷ a) b zero q h = absurd (omega arith)
set-append_right (x ∷ a) b (suc i) q h =
    let z : suc i - suc (length a) ≡ i - length a = omega arith in
    rw z (ap (λ (l : List ℕ). x ∷ l) (set-append_right a b i q (omega arith)))

pub set_middle : (a b c : List ℕ) (n q : ℕ) → n < length b → set (a ++ (b ++ c)) (length a + n) q ≡ a ++ (set b n q ++ c)
set_middle a b c n q h =
    let z : length a + n - length a ≡ n = omega arith in
    set-append_right a (b ++ c) (length a + n) q (omega arith) ∙ rw z (ap (λ (l : List ℕ). a ++ l) (set-append_left b c n q h))

pub get_or_middle : (a b c : List ℕ) (n : ℕ) → n < length b → get_or (a ++ (b ++ c)) (length a + n) 0 ≡ get_or b n 0
get_or_middle a b c n h = get_or-append-add a (b ++ c) n 0 ∙ get_or-append b c 0 n h

-- parts joined, where the new number's part is that of the old one
pub flat-set_same : (g : ℕ → List ℕ) (xs : List ℕ) (n q : ℕ) → g q ≡ g (get_or xs n 0) → flat g (set xs n q) ≡ flat g xs
unfolding flat
flat-set_same g [] n q e = refl
flat-set_same g (x ∷ xs) zero q e = ap (λ (l : List ℕ). l ++ flat g xs) e
flat-set_same g (x ∷ xs) (suc n) q e = ap (λ (l : List ℕ). g x ++ l) (flat-set_same g xs n q e)
