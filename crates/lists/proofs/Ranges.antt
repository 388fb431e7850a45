-- `range`: how long it is and what is in it, and walked by a loop that goes up: tests of all, those kept, and a search.
use mathlib.Core.Path.{◌≡◌, refl, sym, ◌∙◌, ap}
use mathlib.Core.List.{◌∷◌, [], List, ◌++◌}
use mathlib.Core.Bool.{Bool, true, false}
use Prim.Native.Nat.{ℕ, suc, ◌+◌, ◌-◌, ◌<◌, ◌≤◌, zero}
use native.Mathlib.Omega.{arith}
use native.Mathlib.Numerals.{add-one}
use native.Mathlib.Decide.{dec_lt}
use native.Mathlib.Nat.{add-zero}
use lib.ListN.{length, get_or, drop}
use lib.Seq.{drop-drop, get_or-drop}
use lib.Dec.{ltb}
use borrow.Author.Tests.{lt-ltb}
use Rattle.lists.specs.Lists.{range, ◌and◌, first, all, kept}
use Rattle.lists.proofs.FirstFound.{one_less, first_yes, first_no, first_end}
use Rattle.lists.proofs.Tests.{both_true}
use Rattle.lists.proofs.Bools.{and-false}

-- how many numbers, one number more, and numbers that stay below a bound
pub length-range : (i n : ℕ) → length (range i n) ≡ n
unfolding range
length-range i zero = refl
length-range i (suc n) = ap suc (length-range (suc i) n)

pub range_snoc : (i n : ℕ) → range i (n + 1) ≡ range i n ++ ((i + n) ∷ [])
unfolding range
range_snoc i zero = let z : i ≡ i + 0 = omega arith in ap (λ (x : ℕ). x ∷ []) z
range_snoc i (suc n) =
    let z : suc i + n ≡ i + suc n = omega arith in
    let y : suc n + 1 ≡ suc (n + 1) = omega arith in
    ap (range i) y ∙ ap (λ (l : List ℕ). i ∷ l) (range_snoc (suc i) n ∙ ap (λ (x : ℕ). range (suc i) n ++ (x ∷ [])) z)

pub range_below : (t i n : ℕ) → i + n ≤ t → all (λ u. ltb u t) (range i n) ≡ true
unfolding all range
range_below t i zero h = refl
range_below t i (suc n) h = both_true _ _ (lt-ltb i t (omega arith)) (range_below t (suc i) n (omega arith))

pub done : (i e : ℕ) → e ≤ i → e - i ≡ 0
done i e h = omega arith

pub range-cons : (i e : ℕ) → i < e → range i (e - i) ≡ i ∷ range (i + 1) (e - (i + 1))
unfolding range
range-cons i e h = rw (one_less i e h, add-one i)

pub range_end : (i e : ℕ) → e ≤ i → range i (e - i) ≡ []
unfolding range
range_end i e h = rw (done i e h)

-- what holds from s up to i, and at i, holds from s up to i + 1
pub range_more : (P : ℕ → Type 0) (s i : ℕ) → ((k : ℕ) → s ≤ k → k < i → P k) → P i → (k : ℕ) → s ≤ k → k < i + 1 → P k
range_more P s i rest here k h g = elim (dec_lt k i) [
  | yes p ↦ rest k h p
  | no q ↦ let e : i ≡ k = omega arith in rw e at here
]

module _ (p : ℕ → Bool) where
  -- each of the numbers passes, or one does not
  pub all_each : (s k : ℕ) → ((j : ℕ) → s ≤ j → j < s + k → p j ≡ true) → all p (range s k) ≡ true
  unfolding all range
  all_each s zero h = refl
  all_each s (suc k) h = both_true (p s) (all p (range (suc s) k)) (h s (omega arith) (omega arith)) (all_each (suc s) k (λ j a b. h j (omega arith) (omega arith)))

  pub all_not : (s k i : ℕ) → s ≤ i → i < s + k → p i ≡ false → all p (range s k) ≡ false
  unfolding all range ◌and◌
  all_not s zero i h g t = absurd (omega arith)
  all_not s (suc k) i h g t = elim (dec_lt s i) [
    | yes l ↦ rw (all_not (suc s) k i l (omega arith) t) (and-false (p s))
    | no m ↦ let e : s ≡ i = omega arith in rw (e, t)
  ]

  -- numbers that fail are passed over
  first_row : (a d e : ℕ) → a + d ≤ e → ((s : ℕ) → a ≤ s → s < a + d → p s ≡ false) → first p a (e - a) ≡ first p (a + d) (e - (a + d))
  first_row a zero e h t = rw add-zero
  first_row a (suc d) e h t =
      let n : a + suc d ≡ a + d + 1 = omega arith in
      first_row a d e (omega arith) (λ s l g. t s l (omega arith)) ∙ first_no p (a + d) e (omega arith) (t (a + d) (omega arith) (omega arith)) ∙ rw n

  pub first_skip : (a b e : ℕ) → a ≤ b → b ≤ e → ((s : ℕ) → a ≤ s → s < b → p s ≡ false) → first p a (e - a) ≡ first p b (e - b)
  first_skip a b e h g t =
      let n : a + (b - a) ≡ b = omega arith in
      rw n at (first_row a (b - a) e (omega arith) (λ s l m. t s l (omega arith)))

  -- a search stays within its numbers
  pub first_from : (i k : ℕ) → i ≤ first p i k
  unfolding first
  first_from i zero = omega arith
  first_from i (suc k) = by (p i) refl (first_from (suc i) k)
    where
      by : (b : Bool) → p i ≡ b → suc i ≤ first p (suc i) k → i ≤ first p i (suc k)
      by true t h = rw (first, t) (omega arith)
      by false t h = rw (first, t) (omega arith)

  pub first_to : (i k : ℕ) → first p i k ≤ i + k
  unfolding first
  first_to i zero = omega arith
  first_to i (suc k) = by (p i) refl (first_to (suc i) k)
    where
      by : (b : Bool) → p i ≡ b → first p (suc i) k ≤ suc i + k → first p i (suc k) ≤ i + suc k
      by true t h = rw (first, t) (omega arith)
      by false t h = rw (first, t) (omega arith)

  -- those kept, one number at a time
  pub kept_yes : (i e : ℕ) → i < e → p i ≡ true → kept p (range i (e - i)) ≡ i ∷ kept p (range (i + 1) (e - (i + 1)))
  unfolding kept
  kept_yes i e h t = rw (range-cons i e h, kept, t)

  pub kept_no : (i e : ℕ) → i < e → p i ≡ false → kept p (range i (e - i)) ≡ kept p (range (i + 1) (e - (i + 1)))
  unfolding kept
  kept_no i e h t = rw (range-cons i e h, kept, t)

  pub kept_end : (i e : ℕ) → e ≤ i → kept p (range i (e - i)) ≡ []
  unfolding kept
  kept_end i e h = rw (range_end i e h)

  -- the lowest of them is where a search stops, and the others are those after it; or there is none
  kept_search : (k i e s : ℕ) → e ≤ i + k → first p i (e - i) ≡ s → s < e → kept p (range i (e - i)) ≡ s ∷ kept p (range (s + 1) (e - (s + 1)))
  kept_search zero i e s l q h = absurd (omega (arith, sym (first_end p i e (omega arith)) ∙ q))
  kept_search (suc k) i e s l q h = elim (dec_lt i e) [
    | yes m ↦ by (p i) refl m (kept_search k (i + 1) e s (omega arith))
    | no m ↦ absurd (omega (arith, sym (first_end p i e (omega arith)) ∙ q))
  ]
    where
      by : (b : Bool) → p i ≡ b → i < e → (first p (i + 1) (e - (i + 1)) ≡ s → s < e → kept p (range (i + 1) (e - (i + 1))) ≡ s ∷ kept p (range (s + 1) (e - (s + 1))))
          → kept p (range i (e - i)) ≡ s ∷ kept p (range (s + 1) (e - (s + 1)))
      by true t m ih = let z : i ≡ s = sym (first_yes p i e m t) ∙ q in kept_yes i e m t ∙ rw z
      by false t m ih = kept_no i e m t ∙ ih (sym (first_no p i e m t) ∙ q) h

  pub kept_next : (i e s : ℕ) → s ≡ first p i (e - i) → s < e → kept p (range i (e - i)) ≡ s ∷ kept p (range (s + 1) (e - (s + 1)))
  kept_next i e s q h = kept_search e i e s (omega arith) (sym q) h

  kept_lost : (k i e : ℕ) → e ≤ i + k → e ≤ first p i (e - i) → kept p (range i (e - i)) ≡ []
  kept_lost zero i e l h = kept_end i e (omega arith)
  kept_lost (suc k) i e l h = elim (dec_lt i e) [
    | yes m ↦ by (p i) refl m (kept_lost k (i + 1) e (omega arith))
    | no m ↦ kept_end i e (omega arith)
  ]
    where
      by : (b : Bool) → p i ≡ b → i < e → (e ≤ first p (i + 1) (e - (i + 1)) → kept p (range (i + 1) (e - (i + 1))) ≡ []) → kept p (range i (e - i)) ≡ []
      by true t m ih = absurd (omega (arith, first_yes p i e m t))
      by false t m ih = kept_no i e m t ∙ ih (omega (arith, first_no p i e m t))

  pub kept_none : (i e : ℕ) → e ≤ first p i (e - i) → kept p (range i (e - i)) ≡ []
  kept_none i e h = kept_lost e i e (omega arith) h

-- of a list whose part from k on is known: the element k, and the part after it
module _ (l : List ℕ) (k s : ℕ) (r : List ℕ) (e : drop k l ≡ s ∷ r) where
  pub drop_get_or : get_or l k 0 ≡ s
  drop_get_or = rw add-zero at (sym (get_or-drop k l 0 0) ∙ ap (λ (q : List ℕ). get_or q 0 0) e)

  pub drop_rest : drop (k + 1) l ≡ r
  drop_rest = sym (drop-drop 1 k l) ∙ ap (drop 1) e
