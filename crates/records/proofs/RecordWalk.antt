-- The walk over variable records, a step at a time. A loop at place p has "what is left answers as the whole" for its invariant:
-- `whole 0 (drop p s) ≡ whole 0 s`, and the count so far with `length (cut 0 (drop p s))` is the whole count.
use mathlib.Core.Path.{◌≡◌, refl, ap, ◌∙◌, sym}
use mathlib.Core.Bool.{true, false}
use mathlib.Core.List.{List, ◌∷◌, []}
use Prim.Native.Nat.{ℕ, zero, suc, ◌+◌, ◌*◌, ◌≤◌, ◌<◌, ◌%◌}
use native.Mathlib.Nat.{zero-mul, one-mul}
use native.Mathlib.Omega.{arith}
use native.Mathlib.Decide.{dec_le}
use lib.ListN.{length, get_or, drop, drop_of_length-le, take, length-drop}
use lib.Seq.{drop-cons, drop-drop}
use lib.Dec.{eqb, leb}
use borrow.Author.Tests.{le-leb, lt-leb, leb-true}
use Rattle.numbers.specs.Numbers.{record_limit}
use Rattle.lists.specs.Lists.{◌and◌, all}
use Rattle.lists.specs.Parts.{part, zeros, word}
use Rattle.lists.proofs.Tests.{is_false, and_left, and_right}
use Rattle.lists.proofs.Bools.{and-false, and-true}
use Rattle.records.specs.Records.{whole, cut}
use Rattle.records.specs.Code.Walk.{past_of, good_at, next_at}
use Rattle.records.proofs.VariableRecords.{cut_skip, whole_skip, whole_long}

-- a record's pad byte, where there is one
pad_of : (m x : ℕ) (s : List ℕ) → m < 2 → x + m ≤ length s → zeros (part x m s) ≡ eqb (m * get_or s x 0) 0
unfolding part all
pad_of zero x s h k = rw zero-mul
pad_of (suc zero) x s h k = rw (drop-cons s x 0 (omega arith), one-mul) (and-true _)
pad_of (suc (suc m)) x s h k = absurd (omega arith)

-- a list from p on, its first two elements apart
two : (s : List ℕ) (p : ℕ) → p + 2 ≤ length s → drop p s ≡ get_or s p 0 ∷ get_or s (p + 1) 0 ∷ drop (p + 2) s
two s p h =
    let y : suc p ≡ p + 1 = omega arith in
    let z : suc (suc p) ≡ p + 2 = omega arith in
    drop-cons s p 0 (omega arith) ∙ ap (λ (l : List ℕ). get_or s p 0 ∷ l) (drop-cons s (suc p) 0 (omega arith)) ∙ rw (z, y)

-- the end, and a single byte before it
pub whole_end : (s : List ℕ) (p : ℕ) → length s ≤ p → whole 0 (drop p s) ≡ true
unfolding whole
whole_end s p h = rw (drop_of_length-le s {i = p} h)

pub cut_end : (s : List ℕ) (p : ℕ) → length s ≤ p → cut 0 (drop p s) ≡ []
unfolding cut
cut_end s p h = rw (drop_of_length-le s {i = p} h)

pub whole_short : (s : List ℕ) (p : ℕ) → p < length s → length s < p + 2 → whole 0 (drop p s) ≡ false
unfolding whole
whole_short s p h k = rw (drop-cons s p 0 h, drop_of_length-le s {i = suc p} (omega arith))

module _ (s : List ℕ) (p n : ℕ) (is : n ≡ word s p) (room : p + 2 ≤ length s) where
  abbrev q : ℕ
  q = past_of p n

  left : n + n % 2 ≤ length (drop (p + 2) s) → q ≤ length s
  left h = omega (arith, length-drop (p + 2) s)

  opened : whole 0 (drop p s) ≡ leb n record_limit and zeros (part (p + 2 + n) (n % 2) s) and whole (n + n % 2) (drop (p + 2) s)
  unfolding whole part
  opened = rw (two s p room, ← is, drop-drop n (p + 2) s)

  whole_past : length s < q → whole 0 (drop p s) ≡ false
  whole_past h =
      let f : whole (n + n % 2) (drop (p + 2) s) ≡ false = is_false _ (λ w. omega (arith, left (whole_long _ _ w))) in
      opened ∙ rw f (and-false _)

  pub cut_next : cut 0 (drop p s) ≡ take n (drop (p + 2) s) ∷ cut 0 (drop q s)
  unfolding cut
  cut_next =
      let z : p + 2 + (n + n % 2) ≡ q = omega arith in
      rw (two s p room, ← is, cut_skip (n + n % 2) (drop (p + 2) s), drop-drop, z)

  pub good_past : length s < q → good_at s p ≡ false
  unfolding good_at ◌and◌
  good_past h = rw (← is, lt-leb q (length s) h, and-false)

  -- a record that ends in the stream; its pad byte, where there is one
  module _ (fits : q ≤ length s) where
    rest : whole (n + n % 2) (drop (p + 2) s) ≡ whole 0 (drop q s)
    rest =
        let z : p + 2 + (n + n % 2) ≡ q = omega arith in
        whole_skip (n + n % 2) (drop (p + 2) s) (omega (arith, length-drop (p + 2) s)) ∙ rw (drop-drop, z)

    good_is : good_at s p ≡ leb n record_limit and zeros (part (p + 2 + n) (n % 2) s)
    unfolding good_at ◌and◌
    good_is = rw (← is, le-leb (p + 2) (length s) room, le-leb q (length s) fits) (rw and-true)

    whole_is : whole 0 (drop p s) ≡ good_at s p and whole 0 (drop q s)
    whole_is = opened ∙ rw (rest, good_is)

    module _ (small : n ≤ record_limit) where
      pub good_pads : good_at s p ≡ eqb (n % 2 * get_or s (p + 2 + n) 0) 0
      unfolding ◌and◌
      good_pads = good_is ∙ rw (le-leb n record_limit small) (pad_of (n % 2) (p + 2 + n) s (omega arith) fits)

-- what is left at p, by the record there
pub good_short : (s : List ℕ) (p : ℕ) → length s < p + 2 → good_at s p ≡ false
unfolding good_at ◌and◌
good_short s p h = rw (lt-leb (p + 2) (length s) h)

pub good_large : (s : List ℕ) (p : ℕ) → record_limit < word s p → good_at s p ≡ false
unfolding good_at ◌and◌
good_large s p h = rw (lt-leb (word s p) record_limit h, and-false)

pub next_is : (s : List ℕ) (p n : ℕ) → n ≡ word s p → next_at s p ≡ past_of p n
unfolding next_at
next_is s p n is = rw is

-- a record that is good at p
pub record Good (s : List ℕ) (p : ℕ) : Type 0 where
  pub small : word s p ≤ record_limit
  pub next : next_at s p ≡ past_of p (word s p)
  pub room : past_of p (word s p) ≤ length s

pub Good-facts : (s : List ℕ) (p : ℕ) → good_at s p ≡ true → Good s p
unfolding good_at next_at
Good-facts s p h =
    record {
      small = leb-true (word s p) record_limit (and_right _ _ (and_left _ _ (and_left _ _ h)));
      next = refl;
      room = leb-true (past_of p (word s p)) (length s) (and_right _ _ (and_left _ _ h));
    }

pub whole_step : (s : List ℕ) (p : ℕ) → p < length s → whole 0 (drop p s) ≡ good_at s p and whole 0 (drop (next_at s p) s)
unfolding next_at ◌and◌
whole_step s p h = elim (dec_le (p + 2) (length s)) [
  | no k ↦ whole_short s p h (omega arith) ∙ rw (good_short s p (omega arith))
  | yes k ↦ elim (dec_le (past_of p (word s p)) (length s)) [
    | no m ↦ whole_past s p (word s p) refl k (omega arith) ∙ rw (good_past s p (word s p) refl k (omega arith))
    | yes m ↦ whole_is s p (word s p) refl k m
  ]
]

pub whole_good : (s : List ℕ) (p : ℕ) → good_at s p ≡ true → whole 0 (drop p s) ≡ whole 0 (drop (next_at s p) s)
unfolding ◌and◌
whole_good s p h =
    let g : Good s p = Good-facts s p h in
    whole_step s p (omega (arith, g.room)) ∙ rw h

pub whole_bad : (s : List ℕ) (p : ℕ) → p < length s → good_at s p ≡ false → whole 0 (drop p s) ≡ false
unfolding ◌and◌
whole_bad s p h k = whole_step s p h ∙ rw k

-- in a whole stream each step is good
pub good_whole : (s : List ℕ) (p : ℕ) → p < length s → whole 0 (drop p s) ≡ true → (good_at s p ≡ true) × (whole 0 (drop (next_at s p) s) ≡ true)
good_whole s p h w =
    let e : good_at s p and whole 0 (drop (next_at s p) s) ≡ true = sym (whole_step s p h) ∙ w in
    (and_left _ _ e, and_right _ _ e)

pub cut_good : (s : List ℕ) (p : ℕ) → good_at s p ≡ true → cut 0 (drop p s) ≡ take (word s p) (drop (p + 2) s) ∷ cut 0 (drop (next_at s p) s)
unfolding next_at
cut_good s p h =
    let g : Good s p = Good-facts s p h in
    cut_next s p (word s p) refl (omega (arith, g.room))

pub count_good : (s : List ℕ) (p : ℕ) → good_at s p ≡ true → length (cut 0 (drop p s)) ≡ suc (length (cut 0 (drop (next_at s p) s)))
count_good s p h = ap length (cut_good s p h)
