-- Tests over joined lists, and lists without repeats: what stands in one part of them stands in no other.
use mathlib.Core.Path.{◌≡◌, sym, ◌∙◌, refl}
use mathlib.Core.List.{List, [], ◌∷◌, ◌++◌}
use mathlib.Core.Bool.{Bool, true, false, not, true≢false}
use Prim.Native.Nat.{ℕ, zero, suc}
use lib.ListN.{set}
use lib.Dec.{eqb}
use borrow.Author.Tests.{ne_eqb, eqb-false, not-true}
use Rattle.lists.specs.Lists.{◌and◌, ◌or◌, all, flat, among, distinct}
use Rattle.lists.proofs.Tests.{and_left, and_right, both_true, or_left, or_right, not_both, is_false, or_first}
use Rattle.lists.proofs.Keeps.{among-append_right}
use Rattle.lists.proofs.Lists.{all-among, among-append, distinct_tail}

pub all-append_left : (r : ℕ → Bool) (s t : List ℕ) → all r (s ++ t) ≡ true → all r s ≡ true
unfolding all ◌and◌ ◌or◌
all-append_left r [] t h = refl
all-append_left r (x ∷ s) t h =
    both_true (r x) (all r s) (and_left (r x) (all r (s ++ t)) h) (all-append_left r s t (and_right (r x) (all r (s ++ t)) h))

pub all-append_right : (r : ℕ → Bool) (s t : List ℕ) → all r (s ++ t) ≡ true → all r t ≡ true
unfolding all ◌and◌ ◌or◌
all-append_right r [] t h = h
all-append_right r (x ∷ s) t h = all-append_right r s t (and_right (r x) (all r (s ++ t)) h)

module _ {A : Type 0} where
  pub all-set : (p : A → Bool) (xs : List A) (k : ℕ) (e : A) → all p xs ≡ true → p e ≡ true → all p (set xs k e) ≡ true
  unfolding all ◌and◌ ◌or◌
  all-set p [] k e h he = refl
  all-set p (x ∷ xs) zero e h he = both_true (p e) (all p xs) he (and_right (p x) (all p xs) h)
  all-set p (x ∷ xs) (suc k) e h he =
      both_true (p x) (all p (set xs k e)) (and_left (p x) (all p xs) h) (all-set p xs k e (and_right (p x) (all p xs) h) he)

  pub all-flat : (r : ℕ → Bool) (f : A → List ℕ) (xs : List A) → all r (flat f xs) ≡ true → all (λ x. all r (f x)) xs ≡ true
  unfolding flat all ◌and◌ ◌or◌
  all-flat r f [] h = refl
  all-flat r f (x ∷ xs) h = both_true (all r (f x)) (all (λ y. all r (f y)) xs) (all-append_left r (f x) (flat f xs) h) (all-flat r f xs (all-append_right r (f x) (flat f xs) h))

-- what stands later in a list without repeats is none of what stands earlier
apart : (x : ℕ) (s t : List ℕ) → among x t ≡ false → all (λ u. not (among u s)) t ≡ true → all (λ u. not (among u (x ∷ s))) t ≡ true
unfolding all among ◌and◌ ◌or◌
apart x s [] n h = refl
apart x s (u ∷ t) n h =
    let ne : eqb u x ≡ false = ne_eqb u x (λ q. eqb-false x u (or_left (eqb x u) (among x t) n) (sym q)) in
    let rest : all (λ v. not (among v (x ∷ s))) t ≡ true = apart x s t (or_right (eqb x u) (among x t) n) (and_right (not (among u s)) (all (λ v. not (among v s)) t) h) in
    rw ne (both_true (not (among u s)) (all (λ v. not (among v (x ∷ s))) t) (and_left (not (among u s)) (all (λ v. not (among v s)) t) h) rest)

none_of : (t : List ℕ) → all (λ u. not (among u [])) t ≡ true
unfolding all among ◌and◌ ◌or◌
none_of [] = refl
none_of (u ∷ t) = none_of t

pub disjoint : (s t : List ℕ) → distinct (s ++ t) ≡ true → all (λ u. not (among u s)) t ≡ true
unfolding distinct ◌and◌ ◌or◌
disjoint [] t h = none_of t
disjoint (x ∷ s) t h =
    let n : among x (s ++ t) ≡ false = not-true (among x (s ++ t)) (and_left (not (among x (s ++ t))) (distinct (s ++ t)) h) in
    apart x s t (among-append_right x s t n) (disjoint s t (and_right (not (among x (s ++ t))) (distinct (s ++ t)) h))

pub middle_apart : (p g b : List ℕ) (u : ℕ) → distinct (p ++ (g ++ b)) ≡ true → among u g ≡ true → among u (p ++ b) ≡ false
middle_apart p g b u h m =
    let gb : among u (g ++ b) ≡ true = among-append u g b ∙ or_first (among u g) (among u b) m in
    let np : among u p ≡ false = not-true _ (all-among (λ q. not (among q p)) (g ++ b) u (disjoint p (g ++ b) h) gb) in
    let nb : among u b ≡ false = is_false (among u b) (λ t. true≢false (sym m ∙ not-true _ (all-among (λ q. not (among q g)) b u (disjoint g b (distinct_tail p (g ++ b) h)) t))) in
    among-append u p b ∙ not_both _ _ np nb
