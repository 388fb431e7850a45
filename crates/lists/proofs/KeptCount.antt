-- How many elements of a list a test keeps: those outside a part of it are all but that part's.
use mathlib.Core.Path.{◌≡◌, refl, ap, sym, ◌∙◌}
use mathlib.Core.Bool.{Bool, true, false, not, true≢false}
use mathlib.Core.List.{List, [], ◌∷◌}
use Prim.Native.Nat.{ℕ, ◌+◌}
use native.Mathlib.Omega.{arith}
use lib.ListN.{length}
use lib.Dec.{eqb}
use borrow.Author.Tests.{eqb-true, eqb-false, ne_eqb, eq-eqb, not-true}
use Rattle.lists.specs.Lists.{◌or◌, kept, among, all, distinct}
use Rattle.lists.proofs.Tests.{and_left, and_right, or_first, or_second, or_cases}

-- tests that agree on a list keep the same of it
pub kept_same : (p q : ℕ → Bool) (xs : List ℕ) → ((x : ℕ) → among x xs ≡ true → q x ≡ p x) → kept q xs ≡ kept p xs
unfolding kept among
kept_same p q [] f = refl
kept_same p q (x ∷ xs) f = by (p x) refl (f x (or_first _ _ (eq-eqb x x refl))) (kept_same p q xs (λ u m. f u (or_second _ _ m)))
  where
    by : (c : Bool) → p x ≡ c → q x ≡ p x → kept q xs ≡ kept p xs → kept q (x ∷ xs) ≡ kept p (x ∷ xs)
    by true e a r = rw (kept, a, e, r)
    by false e a r = rw (kept, a, e, r)

-- a test that refuses one element more keeps one fewer
one_fewer : (p q : ℕ → Bool) (y : ℕ) (xs : List ℕ) → distinct xs ≡ true → among y xs ≡ true → p y ≡ true → q y ≡ false → ((x : ℕ) → eqb x y ≡ false → q x ≡ p x)
    → length (kept q xs) + 1 ≡ length (kept p xs)
unfolding kept among distinct
one_fewer p q y [] d m hp hq f = absurd (true≢false (sym m))
one_fewer p q y (x ∷ xs) d m hp hq f = by (eqb x y) refl (λ n. one_fewer p q y xs (and_right _ _ d) n hp hq f)
  where
    other : (c : Bool) → p x ≡ c → q x ≡ p x → length (kept q xs) + 1 ≡ length (kept p xs) → length (kept q (x ∷ xs)) + 1 ≡ length (kept p (x ∷ xs))
    other true e a r = rw (kept, a, e) (omega arith)
    other false e a r = rw (kept, a, e) r

    by : (c : Bool) → eqb x y ≡ c → (among y xs ≡ true → length (kept q xs) + 1 ≡ length (kept p xs)) → length (kept q (x ∷ xs)) + 1 ≡ length (kept p (x ∷ xs))
    by true e r =
        let z : x ≡ y = eqb-true x y e in
        let px : p x ≡ true = ap p z ∙ hp in
        let qx : q x ≡ false = ap q z ∙ hq in
        let rest : kept q xs ≡ kept p xs = kept_same p q xs (λ u n.
        f u (ne_eqb u y (λ w. true≢false (sym n ∙ ap (λ (i : ℕ). among i xs) (w ∙ sym z) ∙ not-true _ (and_left _ _ d))))) in
        rw (kept, px, qx, rest) (omega arith)
    by false e r = other (p x) refl (f x e) (r (or_cases _ _ m (ne_eqb y x (λ z. eqb-false x y e (sym z)))))

-- outside of nothing are all
nothing_out : (xs : List ℕ) → kept (λ x. not (among x [])) xs ≡ xs
unfolding kept among
nothing_out [] = refl
nothing_out (x ∷ xs) = ap (λ (l : List ℕ). x ∷ l) (nothing_out xs)

-- the elements outside a part without repeats, and that part, are all of them
pub outside : (xs ys : List ℕ) → distinct xs ≡ true → distinct ys ≡ true → all (λ y. among y xs) ys ≡ true → length (kept (λ x. not (among x ys)) xs) + length ys ≡ length xs
unfolding all distinct
outside xs [] dx dy h = rw (nothing_out xs) (omega arith)
outside xs (y ∷ ys) dx dy h =
    let out : among y ys ≡ false = not-true _ (and_left _ _ dy) in
    let fewer : length (kept (λ x. not (among x (y ∷ ys))) xs) + 1 ≡ length (kept (λ x. not (among x ys)) xs) =
    one_fewer (λ x. not (among x ys)) (λ x. not (among x (y ∷ ys))) y xs dx (and_left _ _ h) (ap not out) (ap not (here y ys)) (λ x e. ap not (later x y ys e)) in
    omega (arith, outside xs ys dx (and_right _ _ dy) (and_right _ _ h))
  where
    here : (u : ℕ) (us : List ℕ) → among u (u ∷ us) ≡ true
    here u us = unfold among in (or_first _ _ (eq-eqb u u refl))

    later : (x u : ℕ) (us : List ℕ) → eqb x u ≡ false → among x (u ∷ us) ≡ among x us
    later x u us e = unfold among ◌or◌ in (rw e)
