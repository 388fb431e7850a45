-- The SAT's bits: what `with_bit` changes, and that the table which marks exactly the owned sectors is `sat_of`.
use Rattle.std.specs.Prelude.{if◌then◌else◌}
use mathlib.Core.Path.{◌≡◌, refl, ap, sym, ◌∙◌}
use mathlib.Core.Bool.{Bool, true, false}
use mathlib.Core.List.{List, map}
use Prim.Native.Nat.{ℕ, zero, suc, ◌+◌, ◌<◌, ◌-◌, ◌/◌, ◌%◌, ◌^◌, ◌*◌, ◌≤◌}
use native.Mathlib.Nat.{not-suc-le-zero, add-zero, zero-add, mod-lt, zero-div}
use native.Mathlib.Omega.{arith}
use native.Mathlib.Decide.{ℕ_discrete}
use lib.Dec.{eqb}
use lib.ListN.{length, get_or, length-map}
use lib.Seq.{get_or-set_same, get_or-set_other, ext_get_or}
use borrow.Author.Tests.{eqb-true, eq-eqb, ne_eqb}
use Rattle.numbers.specs.Numbers.{most_sectors}
use Rattle.lists.specs.Lists.{◌and◌, ◌or◌, all, range}
use Rattle.lists.proofs.Tests.{and_left, and_right}
use Rattle.lists.proofs.Ranges.{length-range}
use Rattle.volume.specs.Sat.{marked, with_bit, one, packed, owns, sat_of}

-- a test that passes at each of n numbers from i on passes at each
all_from : (p : ℕ → Bool) (i n : ℕ) → all p (range i n) ≡ true → (k : ℕ) → k < n → p (i + k) ≡ true
unfolding all range ◌and◌ ◌or◌
all_from p i zero e k h = absurd (not-suc-le-zero h)
all_from p i (suc n) e zero h = rw add-zero (and_left (p i) (all p (range (suc i) n)) e)
all_from p i (suc n) e (suc k) h =
    let s : i + suc k ≡ suc i + k = omega arith in
    rw s (all_from p (suc i) n (and_right (p i) (all p (range (suc i) n)) e) k (omega arith))

pub range_each : (p : ℕ → Bool) (i n : ℕ) → all p (range i n) ≡ true → (j : ℕ) → i ≤ j → j < i + n → p j ≡ true
range_each p i n e j h g = let z : i + (j - i) ≡ j = omega arith in rw z at (all_from p i n e (j - i) (omega arith))

pub all-range : (p : ℕ → Bool) (n : ℕ) → all p (range 0 n) ≡ true → (k : ℕ) → k < n → p k ≡ true
all-range p n e k h = rw zero-add at (all_from p 0 n e k h)

-- bit j of a byte, from the top; and the byte with bit k made v
bit : ℕ → ℕ → ℕ
bit x j = x / 2 ^ (7 - j) % 2

unfoldable pub made : ℕ → ℕ → ℕ → ℕ
made v x k = x - x / 2 ^ (7 - k) % 2 * 2 ^ (7 - k) + v * 2 ^ (7 - k)

right : ℕ → ℕ → ℕ → ℕ → Bool
right v x k j = eqb (bit (made v x k) j) (if eqb j k then v else bit x j)

tested : all (λ v. all (λ x. all (λ k. all (λ j. right v x k j) (range 0 8)) (range 0 8)) (range 0 256)) (range 0 2) ≡ true
unfolding all range bit made right ◌and◌ ◌or◌
tested = refl

bit-made : (v x k j : ℕ) → v < 2 → x < 256 → k < 8 → j < 8 → bit (made v x k) j ≡ (if eqb j k then v else bit x j)
unfolding right ◌and◌ ◌or◌
bit-made v x k j hv hx hk hj =
    eqb-true (bit (made v x k) j) (if eqb j k then v else bit x j)
    (all-range (λ q. right v x k q) 8
    (all-range (λ q. all (λ j. right v x q j) (range 0 8)) 8
    (all-range (λ q. all (λ k. all (λ j. right v q k j) (range 0 8)) (range 0 8)) 256
    (all-range (λ q. all (λ x. all (λ k. all (λ j. right q x k j) (range 0 8)) (range 0 8)) (range 0 256)) 2 tested v hv)
    x hx) k hk) j hj)

-- the same, as tests: bit k's place, and any other
bit-made_test : (v x s u : ℕ) → v < 2 → x < 256 → u / 8 ≡ s / 8
    → eqb (bit (made v x (s % 8)) (u % 8)) 1 ≡ (if eqb u s then eqb v 1 else eqb (bit x (u % 8)) 1)
bit-made_test v x s u hv hx e =
    let law : bit (made v x (s % 8)) (u % 8) ≡ (if eqb (u % 8) (s % 8) then v else bit x (u % 8)) =
    bit-made v x (s % 8) (u % 8) hv hx (omega arith) (omega arith) in
    elim (ℕ_discrete u s) [
      | yes q ↦
          let t : eqb u s ≡ true = eq-eqb u s q in
          let t8 : eqb (u % 8) (s % 8) ≡ true = eq-eqb (u % 8) (s % 8) (ap (λ (k : ℕ). k % 8) q) in
          rw (law, t, t8)
      | no ne ↦
          let t : eqb u s ≡ false = ne_eqb u s ne in
          let t8 : eqb (u % 8) (s % 8) ≡ false = ne_eqb (u % 8) (s % 8) (λ q. ne (omega arith)) in
          rw (law, t, t8)
    ]

pub marked-with_bit : (v : ℕ) (b : List ℕ) (s u : ℕ) → v < 2 → ((i : ℕ) → get_or b i 0 < 256) → s / 8 < length b
    → marked (with_bit v b s) u ≡ (if eqb u s then eqb v 1 else marked b u)
unfolding marked with_bit bit made ◌and◌ ◌or◌
marked-with_bit v b s u hv hb hs = elim (ℕ_discrete (u / 8) (s / 8)) [
  | yes e ↦
      rw (e, get_or-set_same b (s / 8) (made v (get_or b (s / 8) 0) (s % 8)) 0 hs)
      (bit-made_test v (get_or b (s / 8) 0) s u hv (hb (s / 8)) e)
  | no ne ↦
      let t : eqb u s ≡ false = ne_eqb u s (λ q. ne (ap (λ (k : ℕ). k / 8) q)) in
      rw (t, get_or-set_other b (s / 8) (u / 8) (made v (get_or b (s / 8) 0) (s % 8)) 0 ne)
]

pub one-le : (b : Bool) → one b ≤ 1
one-le true = omega arith
one-le false = omega arith

one_is : (b : Bool) → eqb (one b) 1 ≡ b
one_is true = refl
one_is false = refl

-- bit k of the byte that packs eight tests is the test k
packed_bit : (f : ℕ → Bool) (s k : ℕ) → k < 8 → packed f s / 2 ^ (7 - k) % 2 ≡ one (f (s + k))
unfolding packed ◌and◌ ◌or◌
packed_bit f s zero h =
    rw add-zero (omega (
      arith,
      one-le (f s),
      one-le (f (s + 1)),
      one-le (f (s + 2)),
      one-le (f (s + 3)),
      one-le (f (s + 4)),
      one-le (f (s + 5)),
      one-le (f (s + 6)),
      one-le (f (s + 7)),
    ))
packed_bit f s (suc zero) h =
    omega (arith, one-le (f s), one-le (f (s + 1)), one-le (f (s + 2)), one-le (f (s + 3)), one-le (f (s + 4)), one-le (f (s + 5)), one-le (f (s + 6)), one-le (f (s + 7)))
packed_bit f s (suc (suc zero)) h =
    omega (arith, one-le (f s), one-le (f (s + 1)), one-le (f (s + 2)), one-le (f (s + 3)), one-le (f (s + 4)), one-le (f (s + 5)), one-le (f (s + 6)), one-le (f (s + 7)))
packed_bit f s (suc (suc (suc zero))) h =
    omega (arith, one-le (f s), one-le (f (s + 1)), one-le (f (s + 2)), one-le (f (s + 3)), one-le (f (s + 4)), one-le (f (s + 5)), one-le (f (s + 6)), one-le (f (s + 7)))
packed_bit f s (suc (suc (suc (suc zero)))) h =
    omega (arith, one-le (f s), one-le (f (s + 1)), one-le (f (s + 2)), one-le (f (s + 3)), one-le (f (s + 4)), one-le (f (s + 5)), one-le (f (s + 6)), one-le (f (s + 7)))
packed_bit f s (suc (suc (suc (suc (suc zero))))) h =
    omega (arith, one-le (f s), one-le (f (s + 1)), one-le (f (s + 2)), one-le (f (s + 3)), one-le (f (s + 4)), one-le (f (s + 5)), one-le (f (s + 6)), one-le (f (s + 7)))
packed_bit f s (suc (suc (suc (suc (suc (suc zero)))))) h =
    omega (arith, one-le (f s), one-le (f (s + 1)), one-le (f (s + 2)), one-le (f (s + 3)), one-le (f (s + 4)), one-le (f (s + 5)), one-le (f (s + 6)), one-le (f (s + 7)))
packed_bit f s (suc (suc (suc (suc (suc (suc (suc zero))))))) h =
    omega (arith, one-le (f s), one-le (f (s + 1)), one-le (f (s + 2)), one-le (f (s + 3)), one-le (f (s + 4)), one-le (f (s + 5)), one-le (f (s + 6)), one-le (f (s + 7)))
packed_bit f s (suc (suc (suc (suc (suc (suc (suc (suc k)))))))) h = absurd (omega arith)

pub get_or-map-range : (f : ℕ → ℕ) (i n k : ℕ) → k < n → get_or (map f (range i n)) k 0 ≡ f (i + k)
unfolding range ◌and◌ ◌or◌
get_or-map-range f i zero k h = absurd (not-suc-le-zero h)
get_or-map-range f i (suc n) zero h = rw add-zero
get_or-map-range f i (suc n) (suc k) h =
    let s : i + suc k ≡ suc i + k = omega arith in
    rw s (get_or-map-range f (suc i) n k (omega arith))

-- the SAT that `sat_of` gives marks exactly the owned sectors and those from t on
pub marked-sat_of : (t : ℕ) (own : List ℕ) (s : ℕ) → s < most_sectors → marked (sat_of t own) s ≡ owns t own s
unfolding marked sat_of ◌and◌ ◌or◌
marked-sat_of t own s h =
    let e : 8 * (0 + s / 8) + s % 8 ≡ s = omega arith in
    rw
    (get_or-map-range (λ i. packed (owns t own) (8 * i)) 0 256 (s / 8) (omega arith), packed_bit (owns t own) (8 * (0 + s / 8)) (s % 8) (omega arith), e)
    (one_is (owns t own s))

-- a bit is what the test of it says
one-eqb : (y : ℕ) → y < 2 → one (eqb y 1) ≡ y
one-eqb zero h = refl
one-eqb (suc zero) h = refl
one-eqb (suc (suc y)) h = absurd (omega arith)

-- the bit k of byte i, by the test of sector 8 i + k
bit_is : (b : List ℕ) (i k : ℕ) → k < 8 → get_or b i 0 / 2 ^ (7 - k) % 2 ≡ one (marked b (8 * i + k))
unfolding marked ◌and◌ ◌or◌
bit_is b i k h =
    let d : (8 * i + k) / 8 ≡ i = omega arith in
    let m : (8 * i + k) % 8 ≡ k = omega arith in
    rw (d, m) (sym (one-eqb (get_or b i 0 / 2 ^ (7 - k) % 2) (mod-lt (get_or b i 0 / 2 ^ (7 - k)) (omega arith))))

pub length-sat_of : (t : ℕ) (own : List ℕ) → length (sat_of t own) ≡ 256
unfolding sat_of ◌and◌ ◌or◌
length-sat_of t own = length-map (range 0 256) _ ∙ length-range 0 256

-- a byte is the sum of its bits
bits_of : ℕ → ℕ
bits_of x = 128 * (x / 128 % 2) + 64 * (x / 64 % 2) + 32 * (x / 32 % 2) + 16 * (x / 16 % 2) + 8 * (x / 8 % 2) + 4 * (x / 4 % 2) + 2 * (x / 2 % 2) + x / 1 % 2

bits_tested : all (λ x. eqb x (bits_of x)) (range 0 256) ≡ true
unfolding all range bits_of ◌and◌ ◌or◌
bits_tested = refl

bits_sum : (x : ℕ) → x < 256 → x ≡ bits_of x
bits_sum x h = eqb-true x (bits_of x) (all-range (λ q. eqb q (bits_of q)) 256 bits_tested x h)

-- byte i, from the eight tests
byte_is : (f : ℕ → Bool) (b : List ℕ) (i : ℕ) → get_or b i 0 < 256 → i < 256 → ((s : ℕ) → s < most_sectors → marked b s ≡ f s) → get_or b i 0 ≡ packed f (8 * i)
unfolding packed bits_of ◌and◌ ◌or◌
byte_is f b i hb hi hm =
    let f0 : get_or b i 0 / 128 % 2 ≡ one (f (8 * i)) = rw add-zero at (bit_is b i 0 (omega arith) ∙ ap one (hm (8 * i + 0) (omega arith))) in
    let f1 : get_or b i 0 / 64 % 2 ≡ one (f (8 * i + 1)) = bit_is b i 1 (omega arith) ∙ ap one (hm (8 * i + 1) (omega arith)) in
    let f2 : get_or b i 0 / 32 % 2 ≡ one (f (8 * i + 2)) = bit_is b i 2 (omega arith) ∙ ap one (hm (8 * i + 2) (omega arith)) in
    let f3 : get_or b i 0 / 16 % 2 ≡ one (f (8 * i + 3)) = bit_is b i 3 (omega arith) ∙ ap one (hm (8 * i + 3) (omega arith)) in
    let f4 : get_or b i 0 / 8 % 2 ≡ one (f (8 * i + 4)) = bit_is b i 4 (omega arith) ∙ ap one (hm (8 * i + 4) (omega arith)) in
    let f5 : get_or b i 0 / 4 % 2 ≡ one (f (8 * i + 5)) = bit_is b i 5 (omega arith) ∙ ap one (hm (8 * i + 5) (omega arith)) in
    let f6 : get_or b i 0 / 2 % 2 ≡ one (f (8 * i + 6)) = bit_is b i 6 (omega arith) ∙ ap one (hm (8 * i + 6) (omega arith)) in
    let f7 : get_or b i 0 / 1 % 2 ≡ one (f (8 * i + 7)) = bit_is b i 7 (omega arith) ∙ ap one (hm (8 * i + 7) (omega arith)) in
    bits_sum (get_or b i 0) hb ∙ rw (f0, f1, f2, f3, f4, f5, f6, f7)

-- a SAT of 256 bytes that marks exactly these sectors is `sat_of`
pub sat_is : (t : ℕ) (own b : List ℕ) → length b ≡ 256 → ((i : ℕ) → get_or b i 0 < 256) → ((s : ℕ) → s < most_sectors → marked b s ≡ owns t own s) → b ≡ sat_of t own
unfolding sat_of ◌and◌ ◌or◌
sat_is t own b hl hb hm =
    ext_get_or 0 b (sat_of t own) (hl ∙ sym (length-sat_of t own)) (λ i h.
    let hi : i < 256 = omega arith in
    byte_is (owns t own) b i (hb i) hi hm ∙ rw (get_or-map-range (λ j. packed (owns t own) (8 * j)) 0 256 i hi, zero-add))

-- a table is what its marks are
pub marks_are : (b c : List ℕ) → length b ≡ 256 → length c ≡ 256 → ((i : ℕ) → get_or b i 0 < 256) → ((i : ℕ) → get_or c i 0 < 256)
    → ((s : ℕ) → s < most_sectors → marked b s ≡ marked c s) → b ≡ c
marks_are b c lb lc hb hc e =
    ext_get_or 0 b c (lb ∙ sym lc) (λ i h.
    let hi : i < 256 = omega arith in
    byte_is (marked c) b i (hb i) hi e ∙ sym (byte_is (marked c) c i (hc i) hi (λ s l. refl)))

-- a byte is 0 where none of its sectors is marked
pub zero_byte : (b : List ℕ) (s : ℕ) → get_or b (s / 8) 0 ≡ 0 → marked b s ≡ false
unfolding marked
zero_byte b s e = rw (e, zero-div (2 ^ (7 - s % 8)))

pub byte_zero : (b : List ℕ) (i : ℕ) → get_or b i 0 < 256 → i < 256 → ((s : ℕ) → 8 * i ≤ s → s < 8 * i + 8 → marked b s ≡ false) → get_or b i 0 ≡ 0
unfolding packed
byte_zero b i hb hi f =
    byte_is (marked b) b i hb hi (λ s l. refl) ∙ rw (
      f (8 * i) (omega arith) (omega arith),
      f (8 * i + 1) (omega arith) (omega arith),
      f (8 * i + 2) (omega arith) (omega arith),
      f (8 * i + 3) (omega arith) (omega arith),
      f (8 * i + 4) (omega arith) (omega arith),
      f (8 * i + 5) (omega arith) (omega arith),
      f (8 * i + 6) (omega arith) (omega arith),
      f (8 * i + 7) (omega arith) (omega arith),
    )
