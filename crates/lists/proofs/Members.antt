-- Members of lists: how many there can be without repeats, and where a member of joined, chosen or made elements comes from.
use mathlib.Core.Path.{◌≡◌, refl, ap, sym, ◌∙◌}
use mathlib.Core.Bool.{Bool, true, false, not, true≢false}
use mathlib.Core.List.{List, [], ◌∷◌, map}
use Prim.Native.Nat.{ℕ, zero, suc, ◌≤◌, ◌<◌}
use native.Mathlib.Nat.{not-suc-le-zero, le_of_suc-le-suc}
use native.Mathlib.Omega.{arith}
use lib.ListN.{length, get_or}
use lib.Dec.{eqb}
use borrow.Author.Tests.{eqb-true, not-true, eq-eqb, ne_eqb}
use Rattle.lists.specs.Lists.{◌or◌, some, kept, flat, index, among, distinct}
use Rattle.lists.proofs.Tests.{and_left, and_right, or_first, or_second, or_cases}
use Rattle.lists.proofs.Lists.{among-append}
use Rattle.lists.proofs.IndexFound.{some-index, index_holds, some_at}

-- a test that refuses a member keeps fewer, and every member that passes
module _ (p : ℕ → Bool) where
  kept_most : (xs : List ℕ) → length (kept p xs) ≤ length xs
  unfolding kept
  kept_most [] = omega arith
  kept_most (x ∷ xs) = by (p x) refl (kept_most xs)
    where
      by : (b : Bool) → p x ≡ b → length (kept p xs) ≤ length xs → length (kept p (x ∷ xs)) ≤ suc (length xs)
      by true e h = rw (kept, e) (omega arith)
      by false e h = rw (kept, e) (omega arith)

  kept_fewer : (u : ℕ) (xs : List ℕ) → p u ≡ false → among u xs ≡ true → length (kept p xs) < length xs
  unfolding kept among
  kept_fewer u [] f m = absurd (true≢false (sym m))
  kept_fewer u (x ∷ xs) f m = by (p x) refl (kept_fewer u xs f)
    where
      by : (b : Bool) → p x ≡ b → (among u xs ≡ true → length (kept p xs) < length xs) → length (kept p (x ∷ xs)) < suc (length xs)
      by true e r = rw (kept, e) (omega (arith, r (or_cases _ _ m (ne_eqb u x (λ q. true≢false (sym e ∙ ap p (sym q) ∙ f))))))
      by false e r = rw (kept, e) (omega (arith, kept_most xs))

  among-kept : (u : ℕ) (xs : List ℕ) → p u ≡ true → among u xs ≡ true → among u (kept p xs) ≡ true
  unfolding kept among
  among-kept u [] t m = m
  among-kept u (x ∷ xs) t m = by (p x) refl (eqb u x) refl (among-kept u xs t)
    where
      by : (b : Bool) → p x ≡ b → (c : Bool) → eqb u x ≡ c → (among u xs ≡ true → among u (kept p xs) ≡ true) → among u (kept p (x ∷ xs)) ≡ true
      by true e true q r = rw (kept, e) (or_first _ _ q)
      by true e false q r = rw (kept, e) (or_second _ _ (r (or_cases _ _ m q)))
      by false e true q r = absurd (true≢false (sym t ∙ ap p (eqb-true u x q) ∙ e))
      by false e false q r = rw (kept, e) (r (or_cases _ _ m q))

-- a list without repeats, all of whose elements another one has, is no longer than that one
other : ℕ → ℕ → Bool
other x y = not (eqb y x)

pub few_members : (xs ys : List ℕ) → distinct xs ≡ true → ((x : ℕ) → among x xs ≡ true → among x ys ≡ true) → length xs ≤ length ys
unfolding among distinct other
few_members [] ys d h = omega arith
few_members (x ∷ xs) ys d h =
    let out : among x xs ≡ false = not-true _ (and_left _ _ d) in
    let here : eqb x x ≡ true = eq-eqb x x refl in
    let rest : length xs ≤ length (kept (other x) ys) =
    few_members xs (kept (other x) ys) (and_right _ _ d) (λ u m.
    let n : eqb u x ≡ false = ne_eqb u x (λ q. true≢false (sym m ∙ ap (λ (i : ℕ). among i xs) q ∙ out)) in
    among-kept (other x) u ys (ap not n) (h u (or_second _ _ m))) in
    omega (arith, rest, kept_fewer (other x) x ys (ap not here) (h x (or_first _ _ here)))

-- a member of joined lists is one of some of them
pub among-flat : {A : Type 0} (f : A → List ℕ) (u : ℕ) (xs : List A) → among u (flat f xs) ≡ some (λ x. among u (f x)) xs
unfolding flat some among
among-flat f u [] = refl
among-flat f u (x ∷ xs) = among-append u (f x) (flat f xs) ∙ ap (λ (b : Bool). among u (f x) or b) (among-flat f u xs)

-- a member is the element at the place where a search for it stops
pub among-some : (u : ℕ) (xs : List ℕ) → among u xs ≡ some (eqb u) xs
unfolding some among
among-some u [] = refl
among-some u (x ∷ xs) = ap (λ (b : Bool). eqb u x or b) (among-some u xs)

module _ (u : ℕ) (xs : List ℕ) (m : among u xs ≡ true) where
  pub member_below : index (eqb u) xs < length xs
  member_below = some-index (eqb u) xs (sym (among-some u xs) ∙ m)

  pub member_at : get_or xs (index (eqb u) xs) 0 ≡ u
  member_at = sym (eqb-true _ _ (index_holds (eqb u) xs 0 member_below))

pub among_at : (xs : List ℕ) (i : ℕ) → i < length xs → among (get_or xs i 0) xs ≡ true
among_at xs i l = among-some (get_or xs i 0) xs ∙ some_at (eqb (get_or xs i 0)) xs 0 i l (eq-eqb (get_or xs i 0) (get_or xs i 0) refl)

-- what f makes of an element that passes is among what it makes of those kept
pub among_made : {A : Type 0} (f : A → ℕ) (p : A → Bool) (xs : List A) (i : ℕ) (d : A) → i < length xs → p (get_or xs i d) ≡ true
    → among (f (get_or xs i d)) (map f (kept p xs)) ≡ true
unfolding kept among
among_made f p [] i d l t = absurd (not-suc-le-zero l)
among_made f p (x ∷ xs) zero d l t = rw (kept, t) (or_first _ _ (eq-eqb (f x) (f x) refl))
among_made f p (x ∷ xs) (suc i) d l t = by (p x) refl (among_made f p xs i d (le_of_suc-le-suc l) t)
  where
    by : (b : Bool) → p x ≡ b → among (f (get_or xs i d)) (map f (kept p xs)) ≡ true → among (f (get_or xs i d)) (map f (kept p (x ∷ xs))) ≡ true
    by true e h = rw (kept, e) (or_second _ _ h)
    by false e h = rw (kept, e) h
