-- What a search finds: the lowest place of a list, or the lowest number, at which a test passes.
use mathlib.Core.Path.{◌≡◌, refl, ap, sym, ◌∙◌}
use mathlib.Core.Bool.{Bool, true, false, not, true≢false}
use mathlib.Core.List.{List, [], ◌∷◌}
use Prim.Native.Nat.{ℕ, zero, suc, ◌≤◌, ◌<◌, ◌+◌}
use native.Mathlib.Nat.{not-suc-le-zero, le_of_suc-le-suc}
use native.Mathlib.Omega.{arith}
use native.Mathlib.Decide.{dec_lt}
use lib.ListN.{length, get_or}
use Rattle.lists.specs.Lists.{◌or◌, all, some, index, first}
use Rattle.lists.proofs.Tests.{or_left, or_right, or_first, or_second, both_true}

module _ {A : Type 0} (p : A → Bool) where
  -- the first element decides, or the rest
  pub index_here : (x : A) (xs : List A) → p x ≡ true → index p (x ∷ xs) ≡ 0
  unfolding index
  index_here x xs e = rw (index, e)

  pub index_later : (x : A) (xs : List A) → p x ≡ false → index p (x ∷ xs) ≡ suc (index p xs)
  unfolding index
  index_later x xs e = rw (index, e)

  -- there is one exactly where the search stops inside
  pub some-index : (xs : List A) → some p xs ≡ true → index p xs < length xs
  unfolding some ◌or◌
  some-index [] h = absurd (true≢false (sym h))
  some-index (x ∷ xs) h = by (p x) refl (some-index xs)
    where
      by : (b : Bool) → p x ≡ b → (some p xs ≡ true → index p xs < length xs) → index p (x ∷ xs) < suc (length xs)
      by true e r = rw (index_here x xs e) (omega arith)
      by false e r = rw (index_later x xs e) (omega (arith, r (rw e at h)))

  pub none_index : (xs : List A) → some p xs ≡ false → index p xs ≡ length xs
  unfolding some index
  none_index [] h = refl
  none_index (x ∷ xs) h = index_later x xs (or_left _ _ h) ∙ ap suc (none_index xs (or_right _ _ h))

  pub index-some : (xs : List A) → index p xs < length xs → some p xs ≡ true
  index-some xs h = by (some p xs) refl
    where
      by : (b : Bool) → some p xs ≡ b → some p xs ≡ true
      by true e = e
      by false e = absurd (omega (arith, none_index xs e))

  -- the test passes there, and at none before
  pub index_holds : (xs : List A) (d : A) → index p xs < length xs → p (get_or xs (index p xs) d) ≡ true
  index_holds [] d h = absurd (not-suc-le-zero h)
  index_holds (x ∷ xs) d h = by (p x) refl (index_holds xs d)
    where
      by : (b : Bool) → p x ≡ b → (index p xs < length xs → p (get_or xs (index p xs) d) ≡ true) → p (get_or (x ∷ xs) (index p (x ∷ xs)) d) ≡ true
      by true e r = rw (index_here x xs e) e
      by false e r = rw (index_later x xs e) (r (omega (arith, index_later x xs e)))

  pub index_before : (xs : List A) (d : A) (i : ℕ) → i < index p xs → p (get_or xs i d) ≡ false
  unfolding index
  index_before [] d i h = absurd (not-suc-le-zero h)
  index_before (x ∷ xs) d i h = by (p x) refl i h (index_before xs d)
    where
      by : (b : Bool) → p x ≡ b → (i : ℕ) → i < index p (x ∷ xs) → ((j : ℕ) → j < index p xs → p (get_or xs j d) ≡ false) → p (get_or (x ∷ xs) i d) ≡ false
      by true e i l r = absurd (omega (arith, index_here x xs e))
      by false e zero l r = e
      by false e (suc i) l r = r i (omega (arith, index_later x xs e))

  -- one that passes; and none, by a test of all
  pub some_at : (xs : List A) (d : A) (i : ℕ) → i < length xs → p (get_or xs i d) ≡ true → some p xs ≡ true
  unfolding some
  some_at [] d i l h = absurd (not-suc-le-zero l)
  some_at (x ∷ xs) d zero l h = or_first _ _ h
  some_at (x ∷ xs) d (suc i) l h = or_second _ _ (some_at xs d i (le_of_suc-le-suc l) h)

  pub none_all : (xs : List A) → some p xs ≡ false → all (λ x. not (p x)) xs ≡ true
  unfolding some all
  none_all [] h = refl
  none_all (x ∷ xs) h = both_true _ _ (ap not (or_left _ _ h)) (none_all xs (or_right _ _ h))

-- the same of numbers
module _ (p : ℕ → Bool) where
  pub first_holds : (i n : ℕ) → first p i n < i + n → p (first p i n) ≡ true
  unfolding first
  first_holds i zero h = absurd (omega arith)
  first_holds i (suc n) h = by (p i) refl (first_holds (suc i) n)
    where
      by : (b : Bool) → p i ≡ b → (first p (suc i) n < suc i + n → p (first p (suc i) n) ≡ true) → p (first p i (suc n)) ≡ true
      by true e r = rw (first, e) e
      by false e r = rw (first, e) (r (omega (arith, rw (first, e) at h)))

  pub first_before : (i n j : ℕ) → i ≤ j → j < first p i n → p j ≡ false
  unfolding first
  first_before i zero j l h = absurd (omega arith)
  first_before i (suc n) j l h = by (p i) refl (first_before (suc i) n j)
    where
      by : (b : Bool) → p i ≡ b → (suc i ≤ j → j < first p (suc i) n → p j ≡ false) → p j ≡ false
      by true e r = absurd (omega (arith, rw (first, e) at h))
      by false e r = elim (dec_lt i j) [
        | yes m ↦ r m (rw (first, e) at h)
        | no m ↦ let q : j ≡ i = omega arith in rw q e
      ]
