-- What claims mean: a list of sectors is claimed where none of them is marked and none stands in it twice. So a run is claimed where none of it is
-- marked; and over the fresh table, sectors below t are claimed where none has two owners, and leave the table of `sat_of`.
use Rattle.std.specs.Prelude.{if◌then◌else◌}
use mathlib.Core.Bool.{Bool, true, false, not}
use mathlib.Core.Logic.{inr}
use mathlib.Core.List.{List, [], ◌∷◌, append-nil}
use mathlib.Core.Path.{◌≡◌, refl, sym, ◌∙◌, ap}
use Prim.Native.Nat.{ℕ, ◌<◌, ◌≤◌, ◌+◌, ◌/◌}
use native.Mathlib.Decide.{ℕ_discrete, dec_lt}
use native.Mathlib.Omega.{arith}
use lib.Dec.{ltb, eqb}
use lib.ListN.{length, replicate}
use borrow.Author.Tests.{ne_eqb, eq-eqb, ltb-true, lt-ltb, le-leb, lt-leb}
use Rattle.numbers.specs.Numbers.{most_sectors}
use Rattle.lists.specs.Lists.{all, ◌and◌, ◌or◌, among, distinct, range}
use Rattle.lists.proofs.AreBytes.{Bytes}
use Rattle.lists.proofs.Bools.{and-false, and-true}
use Rattle.lists.proofs.Keeps.{range_out}
use Rattle.lists.proofs.Lists.{all-cons, all_ext}
use Rattle.lists.proofs.RangeParts.{among-range, distinct-range}
use Rattle.lists.proofs.Ranges.{range_below}
use Rattle.lists.proofs.Tests.{and_left, and_right, not_both}
use Rattle.volume.specs.Sat.{marked, is_free, with_bit, with_bits, owns, packed, sat_of}
use Rattle.volume.proofs.Bits.{marked-with_bit, marked-sat_of, length-sat_of, sat_is}
use Rattle.volume.proofs.BitsSet.{sat_numbers, length-with_bits, Bytes-with_bits, marked-with_bits}
use Rattle.volume.proofs.SatAccounts.{sat_marked}
use Rattle.volume.proofs.SatChanged.{Bytes-sat_of}
use Rattle.ownership.specs.Code.Claims.{claim, fresh}

-- each of the list lies below n
abbrev pub within : ℕ → List ℕ → Bool
within n xs = all (λ s. ltb s n) xs

-- a sector stays free where another is marked
free_set : (m : List ℕ) (x y : ℕ) → Bytes m → x / 8 < length m → Dec (x ≡ y) → is_free (with_bit 1 m x) y ≡ is_free m y and not (eqb x y)
unfolding is_free
free_set m x y b h (yes e) = rw (marked-with_bit 1 m x y (omega arith) b h, eq-eqb x y e, eq-eqb y x (sym e)) (sym (and-false (not (marked m y))))
free_set m x y b h (no q) = rw (marked-with_bit 1 m x y (omega arith) b h, ne_eqb x y q, ne_eqb y x (λ e. q (sym e))) (sym (and-true (not (marked m y))))

mix : (a b c d : Bool) → (a and not b) and (c and not d) ≡ (a and c) and not (b or d)
unfolding ◌and◌ ◌or◌
mix true true true d = refl
mix true true false d = refl
mix true false c d = refl
mix false b c d = refl

swap : (a b c d : Bool) → a and ((b and not c) and d) ≡ (a and b) and (not c and d)
unfolding ◌and◌
swap true true c d = refl
swap true false c d = refl
swap false b c d = refl

all_set : (m : List ℕ) (x : ℕ) (xs : List ℕ) → Bytes m → x / 8 < length m → all (is_free (with_bit 1 m x)) xs ≡ all (is_free m) xs and not (among x xs)
unfolding all among ◌and◌
all_set m x [] b h = refl
all_set m x (y ∷ ys) b h =
    rw (free_set m x y b h (ℕ_discrete x y), all_set m x ys b h)
    (mix (is_free m y) (eqb x y) (all (is_free m) ys) (among x ys))

claim_is : (m xs : List ℕ) → Bytes m → length m ≡ 256 → sat_numbers xs ≡ true → claim m xs ≡ all (is_free m) xs and distinct xs
unfolding claim all distinct with_bits ◌and◌
claim_is m [] b l h = refl
claim_is m (x ∷ xs) b l h =
    let k : ltb x most_sectors ≡ true = and_left (ltb x most_sectors) (sat_numbers xs) h in
    let one : sat_numbers (x ∷ []) ≡ true = all-cons (λ s. ltb s most_sectors) x [] k refl in
    rw (
      claim_is (with_bit 1 m x) xs (Bytes-with_bits 1 m (x ∷ []) (omega arith) b l one) (length-with_bits 1 m (x ∷ []) ∙ l) (and_right (ltb x most_sectors) (sat_numbers xs) h),
      all_set m x xs b (omega (arith, ltb-true x most_sectors k)),
    )
    (swap (is_free m x) (all (is_free m) xs) (among x xs) (distinct xs))

-- the sectors of a run are distinct
pub claim-range : (m : List ℕ) (s n : ℕ) → Bytes m → length m ≡ 256 → s + n ≤ most_sectors → claim m (range s n) ≡ all (is_free m) (range s n)
claim-range m s n b l h = claim_is m (range s n) b l (range_below most_sectors s n h) ∙ rw (distinct-range s n) (and-true _)

-- a table of ones is the one of no sectors; with the first t freed, the one of t sectors and no owner
ones_are : replicate 256 255 ≡ sat_of 0 []
unfolding sat_of packed owns range among ◌or◌
ones_are = refl

module _ (t : ℕ) (high : t ≤ most_sectors) where
  below : sat_numbers (range 0 t) ≡ true
  below = range_below most_sectors 0 t (omega arith)

  freed : (s : ℕ) → s < most_sectors → (if among s (range 0 t) then false else marked (sat_of 0 []) s) ≡ owns t [] s
  unfolding owns among ◌or◌
  freed s h = elim (dec_lt s t) [
    | yes l ↦ rw (range_out s 0 t (omega arith) (omega arith), lt-leb t s l)
    | no l ↦ rw (among-range s 0 t (inr (omega arith)), marked-sat_of 0 [] s h, le-leb t s (omega arith), le-leb 0 s (omega arith))
  ]

  fresh_is : fresh t ≡ sat_of t []
  unfolding fresh
  fresh_is =
      ap (λ (b : List ℕ). with_bits 0 b (range 0 t)) ones_are
      ∙ sat_is t [] (with_bits 0 (sat_of 0 []) (range 0 t)) (length-with_bits 0 (sat_of 0 []) (range 0 t) ∙ length-sat_of 0 [])
      (Bytes-with_bits 0 (sat_of 0 []) (range 0 t) (omega arith) (Bytes-sat_of 0 []) (length-sat_of 0 []) below)
      (λ s h. marked-with_bits 0 (sat_of 0 []) (range 0 t) s (omega arith) (Bytes-sat_of 0 []) (length-sat_of 0 []) below ∙ freed s h)

  module _ (xs : List ℕ) (h : within t xs ≡ true) where
    inside : sat_numbers xs ≡ true
    inside = all_ext (λ s. ltb s t) (λ s. ltb s t) (λ s. ltb s most_sectors) xs (λ x a c. lt-ltb x most_sectors (omega (arith, ltb-true x t a))) h h

    all_free : all (is_free (sat_of t [])) xs ≡ true
    unfolding is_free owns among
    all_free =
        all_ext (λ s. ltb s t) (λ s. ltb s t) (is_free (sat_of t [])) xs (λ x a c.
        let l : x < t = ltb-true x t a in
        ap not (marked-sat_of t [] x (omega arith) ∙ not_both _ _ (lt-leb t x l) refl)) h h

    pub claim-fresh : claim (fresh t) xs ≡ distinct xs
    unfolding ◌and◌
    claim-fresh = rw fresh_is (claim_is (sat_of t []) xs (Bytes-sat_of t []) (length-sat_of t []) inside ∙ rw all_free)

    pub table_fresh : with_bits 1 (fresh t) xs ≡ sat_of t xs
    table_fresh = sat_marked t [] xs [] (fresh t) inside fresh_is ∙ ap (sat_of t) (append-nil xs)
