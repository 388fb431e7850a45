-- A list with one element replaced, seen through functions that agree on the others.
use mathlib.Core.Path.{◌≡◌, refl, ap, sym, ◌∙◌}
use mathlib.Core.Logic.{◌≢◌}
use mathlib.Core.Bool.{Bool, true}
use mathlib.Core.List.{List, [], ◌∷◌, ◌++◌, append_assoc}
use Prim.Native.Nat.{ℕ, zero, suc, ◌<◌}
use native.Mathlib.Nat.{not-suc-le-zero, le_of_suc-le-suc}
use native.Mathlib.Omega.{arith}
use lib.ListN.{length, get_or, set}
use Rattle.lists.specs.Lists.{all, flat}
use Rattle.lists.proofs.Tests.{and_left, and_right, both_true}

module _ {A : Type 0} where
  all_same : (p q : A → Bool) (xs : List A) (d : A) → ((i : ℕ) → i < length xs → q (get_or xs i d) ≡ p (get_or xs i d)) → all p xs ≡ true → all q xs ≡ true
  unfolding all
  all_same p q [] d f h = refl
  all_same p q (x ∷ xs) d f h =
      both_true _ _ (f 0 (omega arith) ∙ and_left _ _ h) (all_same p q xs d (λ i l. f (suc i) (omega arith)) (and_right _ _ h))

  -- a test of all, where q agrees with p on all but element k
  pub all_replaced : (p q : A → Bool) (xs : List A) (k : ℕ) (d z : A) → ((i : ℕ) → i < length xs → i ≢ k → q (get_or xs i d) ≡ p (get_or xs i d)) → all p xs ≡ true → q z ≡ true
      → all q (set xs k z) ≡ true
  unfolding all
  all_replaced p q [] k d z f h e = refl
  all_replaced p q (x ∷ xs) zero d z f h e = both_true _ _ e (all_same p q xs d (λ i l. f (suc i) (omega arith) (λ c. omega arith)) (and_right _ _ h))
  all_replaced p q (x ∷ xs) (suc k) d z f h e =
      both_true _ _ (f 0 (omega arith) (λ c. omega arith) ∙ and_left _ _ h)
      (all_replaced p q xs k d z (λ i l n. f (suc i) (omega arith) (λ c. n (omega arith))) (and_right _ _ h) e)

  flat_same : (f g : A → List ℕ) (xs : List A) (d : A) → ((i : ℕ) → i < length xs → g (get_or xs i d) ≡ f (get_or xs i d)) → flat g xs ≡ flat f xs
  unfolding flat
  flat_same f g [] d h = refl
  flat_same f g (x ∷ xs) d h = rw (h 0 (omega arith), flat_same f g xs d (λ i l. h (suc i) (omega arith)))

  -- what stands before element k's list and after it stays
  pub record Split (f g : A → List ℕ) (xs : List A) (k : ℕ) (d z : A) : Type 0 where
    pub before : List ℕ
    pub after : List ℕ
    pub was : flat f xs ≡ before ++ (f (get_or xs k d) ++ after)
    pub now_is : flat g (set xs k z) ≡ before ++ (g z ++ after)

  pub split : (f g : A → List ℕ) (xs : List A) (k : ℕ) (d z : A) → k < length xs → ((i : ℕ) → i < length xs → i ≢ k → g (get_or xs i d) ≡ f (get_or xs i d)) → Split f g xs k d z
  unfolding flat
  split f g [] k d z l h = absurd (not-suc-le-zero l)
  split f g (x ∷ xs) zero d z l h = record {
    before = [];
    after = flat f xs;
    was = refl;
    now_is = ap (λ (r : List ℕ). g z ++ r) (flat_same f g xs d (λ i m. h (suc i) (omega arith) (λ c. omega arith)));
  }
  split f g (x ∷ xs) (suc k) d z l h =
      let r : Split f g xs k d z = split f g xs k d z (le_of_suc-le-suc l) (λ i m n. h (suc i) (omega arith) (λ c. n (omega arith))) in
      record {
        before = f x ++ r.before;
        after = r.after;
        was = ap (λ (q : List ℕ). f x ++ q) r.was ∙ sym (append_assoc (f x) r.before (f (get_or xs k d) ++ r.after));
        now_is = ap (λ (q : List ℕ). q ++ flat g (set xs k z)) (h 0 (omega arith) (λ c. omega arith)) ∙ ap (λ (q : List ℕ). f x ++ q) r.now_is
            ∙ sym (append_assoc (f x) r.before (g z ++ r.after));
      }
