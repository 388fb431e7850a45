-- Runs of sectors: marked and freed bit by bit, and the bytes that they fill at once.
use mathlib.Core.Path.{◌≡◌, refl, sym, ◌∙◌, ap}
use mathlib.Core.List.{List, ◌∷◌, ◌++◌}
use mathlib.Core.Bool.{true}
use mathlib.Core.Logic.{◌⊎◌, inl, inr, ⊎_elim}
use Prim.Native.Nat.{ℕ, zero, suc, ◌+◌, ◌-◌, ◌*◌, ◌/◌, ◌%◌, ◌^◌, ◌<◌, ◌≤◌}
use native.Mathlib.Nat.{zero-add, add-zero}
use native.Mathlib.Omega.{arith}
use native.Mathlib.Decide.{dec_lt}
use lib.Dec.{eqb}
use lib.ListN.{length, take, drop, replicate, length-replicate, get_or-replicate}
use borrow.Rule.Slice.PartMut.{put_mid}
use borrow.Author.Tests.{eqb-true}
use Rattle.numbers.specs.Numbers.{most_sectors}
use Rattle.lists.specs.Lists.{range, ◌and◌, all}
use Rattle.lists.specs.Parts.{byte, put}
use Rattle.lists.proofs.AreBytes.{Bytes}
use Rattle.lists.proofs.ByteLists.{Bytes-replicate, Bytes-put}
use Rattle.lists.proofs.Keeps.{range_out}
use Rattle.lists.proofs.LentParts.{wrote_fill}
use Rattle.lists.proofs.PutBytes.{byte-put_inside, byte-put_outside}
use Rattle.lists.proofs.Puts.{length-put}
use Rattle.lists.proofs.RangeParts.{among-range}
use Rattle.lists.proofs.Ranges.{range-cons, range_end, range_below}
use Rattle.volume.specs.Sat.{marked, with_bit, with_bits}
use Rattle.volume.specs.Code.Marks.{bit_of}
use Rattle.volume.specs.declared.sat.Mark.{Mark}
use Rattle.volume.specs.declared.sat.Mark.TheVariants.{Free, Used}
use Rattle.volume.proofs.Bits.{all-range, marks_are}
use Rattle.volume.proofs.BitsSet.{sat_numbers, marked-with_bits, Bytes-with_bits, length-with_bits, with_bits-append}

-- a bit is 0 or 1
pub bit_of-lt : (m : Mark) → bit_of m < 2
bit_of-lt Free = omega arith
bit_of-lt Used = omega arith

-- a turn of a loop that marks or frees a run
pub with_bits_more : (v : ℕ) (b : List ℕ) (i e : ℕ) → i < e → with_bits v b (range i (e - i)) ≡ with_bits v (with_bit v b i) (range (i + 1) (e - (i + 1)))
unfolding with_bits
with_bits_more v b i e h = rw (range-cons i e h)

pub with_bits_end : (v : ℕ) (b : List ℕ) (i e : ℕ) → e ≤ i → with_bits v b (range i (e - i)) ≡ b
unfolding with_bits
with_bits_end v b i e h = rw (range_end i e h)

-- a run in two; and in three, the sectors of the bytes from a up to e in the middle
range_split : (i m n : ℕ) → range i (m + n) ≡ range i m ++ range (i + m) n
unfolding range
range_split i zero n = rw (zero-add n, add-zero i)
range_split i (suc m) n =
    let e : suc m + n ≡ suc (m + n) = omega arith in
    let f : suc i + m ≡ i + suc m = omega arith in
    ap (range i) e ∙ ap (λ (l : List ℕ). i ∷ l) (range_split (suc i) m n ∙ ap (λ (k : ℕ). range (suc i) m ++ range k n) f)

pub range_bytes : (s n a e : ℕ) → s ≤ 8 * a → a ≤ e → 8 * e ≤ s + n
    → range s n ≡ range s (8 * a - s) ++ (range (8 * a) (8 * (e - a)) ++ range (8 * e) (s + n - 8 * e))
range_bytes s n a e h g f =
    let m : n ≡ (8 * a - s) + (8 * (e - a) + (s + n - 8 * e)) = omega arith in
    let i : s + (8 * a - s) ≡ 8 * a = omega arith in
    let j : 8 * a + 8 * (e - a) ≡ 8 * e = omega arith in
    ap (range s) m ∙ range_split s (8 * a - s) (8 * (e - a) + (s + n - 8 * e))
    ∙ ap (λ (l : List ℕ). range s (8 * a - s) ++ l)
    (ap (λ (k : ℕ). range k (8 * (e - a) + (s + n - 8 * e))) i ∙ range_split (8 * a) (8 * (e - a)) (s + n - 8 * e)
    ∙ ap (λ (k : ℕ). range (8 * a) (8 * (e - a)) ++ range k (s + n - 8 * e)) j)

-- eight bits of one byte, all made v
all_bits : all (λ v. all (λ k. eqb (255 * v / 2 ^ (7 - k) % 2) v) (range 0 8)) (range 0 2) ≡ true
unfolding all range ◌and◌
all_bits = refl

bit_of_all : (v k : ℕ) → v < 2 → k < 8 → 255 * v / 2 ^ (7 - k) % 2 ≡ v
bit_of_all v k h g =
    eqb-true _ _ (all-range (λ j. eqb (255 * v / 2 ^ (7 - j) % 2) v) 8
    (all-range (λ x. all (λ j. eqb (255 * x / 2 ^ (7 - j) % 2) x) (range 0 8)) 2 all_bits v h) k g)

module _ (v : ℕ) (b : List ℕ) (hv : v < 2) (hb : Bytes b) (long : length b ≡ 256) where
  -- n bytes from a on, all their bits made v
  module _ (a n : ℕ) (fits : a + n ≤ 256) where
    abbrev made : List ℕ
    made = put a (replicate n (255 * v)) b

    in_table : a + length (replicate n (255 * v)) ≤ length b
    in_table = omega (arith, length-replicate n (255 * v))

    numbers : sat_numbers (range (8 * a) (8 * n)) ≡ true
    numbers = range_below most_sectors (8 * a) (8 * n) (omega arith)

    inside : (u : ℕ) → 8 * a ≤ u → u < 8 * a + 8 * n → byte made (u / 8) ≡ 255 * v
    inside u h g =
        let z : u / 8 ≡ a + (u / 8 - a) = omega arith in
        ap (byte made) z ∙ byte-put_inside a (replicate n (255 * v)) b in_table (u / 8 - a) (omega (arith, length-replicate n (255 * v)))
        ∙ get_or-replicate n (u / 8 - a) (255 * v) 0 (omega arith)

    outside : (u : ℕ) → (u / 8 < a) ⊎ (a + n ≤ u / 8) → byte made (u / 8) ≡ byte b (u / 8)
    outside u h =
        byte-put_outside a (replicate n (255 * v)) b in_table (u / 8)
        (⊎_elim inl (λ l. inr (omega (arith, length-replicate n (255 * v)))) h)

    made_marks : (u : ℕ) → u < most_sectors → marked (with_bits v b (range (8 * a) (8 * n))) u ≡ marked made u
    unfolding marked
    made_marks u l = marked-with_bits v b (range (8 * a) (8 * n)) u hv hb long numbers ∙ elim (dec_lt u (8 * a)) [
      | yes p ↦ rw (among-range u (8 * a) (8 * n) (inl p), outside u (inl (omega arith)))
      | no p ↦ elim (dec_lt u (8 * a + 8 * n)) [
        | yes q ↦ rw (range_out u (8 * a) (8 * n) (omega arith) q, inside u (omega arith) q, bit_of_all v (u % 8) hv (omega arith))
        | no q ↦ rw (among-range u (8 * a) (8 * n) (inr (omega arith)), outside u (inr (omega arith)))
      ]
    ]

    pub with_bits_bytes : with_bits v b (range (8 * a) (8 * n)) ≡ put a (replicate n (255 * v)) b
    with_bits_bytes =
        marks_are _ _ (length-with_bits v b (range (8 * a) (8 * n)) ∙ long) (length-put a (replicate n (255 * v)) b in_table ∙ long)
        (Bytes-with_bits v b (range (8 * a) (8 * n)) hv hb long numbers) (Bytes-put a _ b (Bytes-replicate n (255 * v) (omega arith)) hb) made_marks

-- a run, as the code makes it: the bits before its bytes from a up to e, these as a part that is lent and filled, and the bits after them
pub with_bits_run : (v : ℕ) (b c d r : List ℕ) → v < 2 → Bytes b → length b ≡ 256 → (s n a e : ℕ) → s + n ≤ most_sectors → s ≤ 8 * a → a ≤ e → 8 * e ≤ s + n
    → c ≡ with_bits v b (range s (8 * a - s)) → d ≡ replicate (length (take (e - a) (drop a c))) (255 * v)
    → r ≡ with_bits v (put_mid a (e - a) c d) (range (8 * e) (s + n - 8 * e)) → r ≡ with_bits v b (range s n)
with_bits_run v b c d r hv hb long s n a e t h g f before filled after =
    let bytes : Bytes c = rw before (Bytes-with_bits v b (range s (8 * a - s)) hv hb long (range_below most_sectors s (8 * a - s) (omega arith))) in
    let l : length c ≡ 256 = ap length before ∙ length-with_bits v b (range s (8 * a - s)) ∙ long in
    let made : put_mid a (e - a) c d ≡ with_bits v c (range (8 * a) (8 * (e - a))) =
    wrote_fill a e (255 * v) c d g (omega arith) filled ∙ sym (with_bits_bytes v c hv bytes l a (e - a) (omega arith)) in
    after ∙ rw (made, before, ← with_bits-append v (with_bits v b (range s (8 * a - s))) (range (8 * a) (8 * (e - a))) (range (8 * e) (s + n - 8 * e)))
    (sym (ap (with_bits v b) (range_bytes s n a e h g f) ∙ with_bits-append v b (range s (8 * a - s)) _))
