-- Tests, members and joins of lists, one element after the other or left out.
use mathlib.Core.Path.{◌≡◌, refl, sym, ap, ◌∙◌}
use mathlib.Core.Bool.{true, true≢false, Bool, false, not}
use mathlib.Core.List.{List, [], ◌∷◌, ◌++◌, map, append_assoc}
use Prim.Native.Nat.{ℕ, zero, suc, ◌<◌}
use native.Mathlib.Nat.{not-suc-le-zero, le_of_suc-le-suc}
use lib.Dec.{eqb}
use lib.ListN.{length, get_or, set}
use borrow.Author.Tests.{eqb-true, eq-eqb, not-true}
use Rattle.lists.specs.Lists.{same, ◌or◌, among, distinct, all, flat}
use Rattle.lists.proofs.Tests.{and_left, and_right, both_true, or_left, or_right, not_both, or_cases}

pub same-true : (s t : List ℕ) → same s t ≡ true → s ≡ t
unfolding same
same-true [] [] e = refl
same-true [] (y ∷ t) e = absurd (true≢false (sym e))
same-true (x ∷ s) [] e = absurd (true≢false (sym e))
same-true (x ∷ s) (y ∷ t) e =
    let p : x ≡ y = eqb-true x y (and_left _ _ e) in
    let q : s ≡ t = same-true s t (and_right _ _ e) in
    cc

pub same_refl : (s : List ℕ) → same s s ≡ true
unfolding same
same_refl [] = refl
same_refl (x ∷ s) = both_true _ _ (eq-eqb x x refl) (same_refl s)

pub among-append : (u : ℕ) (s t : List ℕ) → among u (s ++ t) ≡ among u s or among u t
unfolding among ◌or◌
among-append u [] t = refl
among-append u (x ∷ s) t = rw (among-append u s t) (or_assoc (eqb u x) (among u s) (among u t))
  where
    or_assoc : (a b c : Bool) → a or (b or c) ≡ a or b or c
    or_assoc true b c = refl
    or_assoc false b c = refl

-- leaving a middle part out keeps a list without repeats
pub distinct_out : (p g b : List ℕ) → distinct (p ++ (g ++ b)) ≡ true → distinct (p ++ b) ≡ true
unfolding distinct
distinct_out [] [] b h = h
distinct_out [] (x ∷ g) b h = distinct_out [] g b (and_right _ _ h)
distinct_out (x ∷ p) g b h =
    let n : among x (p ++ (g ++ b)) ≡ false = not-true _ (and_left _ _ h) in
    let np : among x p ≡ false = or_left _ _ (sym (among-append x p (g ++ b)) ∙ n) in
    let ngb : among x (g ++ b) ≡ false = or_right _ _ (sym (among-append x p (g ++ b)) ∙ n) in
    let nb : among x b ≡ false = or_right _ _ (sym (among-append x g b) ∙ ngb) in
    let m : among x (p ++ b) ≡ false = among-append x p b ∙ not_both _ _ np nb in
    both_true (not (among x (p ++ b))) (distinct (p ++ b)) (ap not m) (distinct_out p g b (and_right _ _ h))

module _ {A : Type 0} where
  -- the tests of q, where c and p pass
  pub all_ext : (c p q : A → Bool) (xs : List A) → ((x : A) → c x ≡ true → p x ≡ true → q x ≡ true) → all c xs ≡ true → all p xs ≡ true → all q xs ≡ true
  unfolding all
  all_ext c p q [] f hc hp = refl
  all_ext c p q (x ∷ xs) f hc hp =
      both_true (q x) (all q xs) (f x (and_left _ _ hc) (and_left _ _ hp)) (all_ext c p q xs f (and_right _ _ hc) (and_right _ _ hp))

  pub flat_ext : (c : A → Bool) (f g : A → List ℕ) (xs : List A) → ((x : A) → c x ≡ true → f x ≡ g x) → all c xs ≡ true → flat f xs ≡ flat g xs
  unfolding all flat
  flat_ext c f g [] e hc = refl
  flat_ext c f g (x ∷ xs) e hc = rw (e x (and_left _ _ hc), flat_ext c f g xs e (and_right _ _ hc))

  -- a join with element k, and with one in its place that joins nothing
  pub flat-set : (f : A → List ℕ) (xs : List A) (k : ℕ) (d z : A) → f z ≡ [] → k < length xs
      → (p : List ℕ) × (b : List ℕ) × (flat f xs ≡ p ++ (f (get_or xs k d) ++ b)) × (flat f (set xs k z) ≡ p ++ b)
  unfolding flat
  flat-set f [] k d z e h = absurd (not-suc-le-zero h)
  flat-set f (x ∷ xs) zero d z e h = ([], flat f xs, refl, rw e)
  flat-set f (x ∷ xs) (suc k) d z e h =
      let r : (p : List ℕ) × (b : List ℕ) × (flat f xs ≡ p ++ (f (get_or xs k d) ++ b)) × (flat f (set xs k z) ≡ p ++ b) = flat-set f xs k d z e (le_of_suc-le-suc h) in (
        f x ++ r.0,
        r.1,
        ap (λ (l : List ℕ). f x ++ l) r.2 ∙ sym (append_assoc (f x) r.0 (f (get_or xs k d) ++ r.1)),
        ap (λ (l : List ℕ). f x ++ l) r.3
            ∙ sym (append_assoc (f x) r.0 r.1),
      )

pub all-among : (r : ℕ → Bool) (xs : List ℕ) (u : ℕ) → all r xs ≡ true → among u xs ≡ true → r u ≡ true
unfolding all among
all-among r [] u h m = absurd (true≢false (sym m))
all-among r (x ∷ xs) u h m = go (eqb u x) refl (λ n. all-among r xs u (and_right (r x) (all r xs) h) n)
  where
    go : (c : Bool) → eqb u x ≡ c → (among u xs ≡ true → r u ≡ true) → r u ≡ true
    go true q f = rw (eqb-true u x q) (and_left (r x) (all r xs) h)
    go false q f = f (or_cases (eqb u x) (among u xs) m q)

-- of a list without repeats, what is in the middle is neither before nor after
pub distinct_tail : (p b : List ℕ) → distinct (p ++ b) ≡ true → distinct b ≡ true
unfolding distinct
distinct_tail [] b h = h
distinct_tail (x ∷ p) b h = distinct_tail p b (and_right _ _ h)

pub all_at : {A : Type 0} (r : A → Bool) (xs : List A) (k : ℕ) (d : A) → all r xs ≡ true → k < length xs → r (get_or xs k d) ≡ true
unfolding all
all_at r [] k d h l = absurd (not-suc-le-zero l)
all_at r (x ∷ xs) zero d h l = and_left _ _ h
all_at r (x ∷ xs) (suc k) d h l = all_at r xs k d (and_right _ _ h) (le_of_suc-le-suc l)

module _ {A : Type 0} (r : A → Bool) where
  pub all-nil : all r [] ≡ true
  unfolding all
  all-nil = refl

  pub all-cons : (x : A) (xs : List A) → r x ≡ true → all r xs ≡ true → all r (x ∷ xs) ≡ true
  unfolding all
  all-cons x xs p q = both_true (r x) (all r xs) p q

  pub all_head : (x : A) (xs : List A) → all r (x ∷ xs) ≡ true → r x ≡ true
  unfolding all
  all_head x xs h = and_left _ _ h

  pub all_tail : (x : A) (xs : List A) → all r (x ∷ xs) ≡ true → all r xs ≡ true
  unfolding all
  all_tail x xs h = and_right _ _ h

  pub all-append : (s t : List A) → all r s ≡ true → all r t ≡ true → all r (s ++ t) ≡ true
  unfolding all
  all-append [] t p q = q
  all-append (y ∷ s) t p q = both_true (r y) (all r (s ++ t)) (and_left _ _ p) (all-append s t (and_right _ _ p) q)

-- an element of a list that was made from another
pub get_or-map : {A B : Type 0} (f : A → B) (a : A) (b : B) (xs : List A) (k : ℕ) → k < length xs → get_or (map f xs) k b ≡ f (get_or xs k a)
get_or-map f a b [] k l = absurd (not-suc-le-zero l)
get_or-map f a b (x ∷ xs) zero l = refl
get_or-map f a b (x ∷ xs) (suc k) l = get_or-map f a b xs k (le_of_suc-le-suc l)

-- the lists of a joined list
pub flat-append : {A B : Type 0} (f : A → List B) (xs ys : List A) → flat f (xs ++ ys) ≡ flat f xs ++ flat f ys
unfolding flat
flat-append f [] ys = refl
flat-append f (x ∷ xs) ys = rw (flat-append f xs ys) (sym (append_assoc (f x) (flat f xs) (flat f ys)))
