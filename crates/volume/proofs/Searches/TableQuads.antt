-- The bits of the table's bytes and quads are the marks of its sectors, and what a search may pass over by them.
use mathlib.Core.Path.{◌≡◌, sym, ap, ◌∙◌}
use mathlib.Core.Bool.{true, false, not}
use mathlib.Core.List.{List}
use Prim.Native.Nat.{ℕ, ◌+◌, ◌-◌, ◌*◌, ◌/◌, ◌%◌, ◌^◌, ◌<◌, ◌≤◌, min}
use native.Mathlib.Nat.{mul_comm, min-eq_left, min-eq_right}
use native.Mathlib.Omega.{arith}
use native.Mathlib.Decide.{dec_lt}
use lib.Dec.{eqb}
use lib.Pow.{pow-add}
use lib.Arith.{digits_lt}
use Rattle.lists.specs.Parts.{byte, word, long}
use Rattle.lists.specs.Lists.{first}
use Rattle.lists.proofs.AreBytes.{Bytes}
use Rattle.lists.proofs.Ranges.{first_from}
use Rattle.lists.proofs.IndexFound.{first_holds, first_before}
use Rattle.volume.specs.Sat.{marked, is_free}
use Rattle.volume.specs.Code.Searches.{bit_at, clear_at, quad, Passed}
use Rattle.volume.proofs.Searches.NumberBits.{high_bit, low_bit, not_bit, zero_bit}
use Rattle.volume.proofs.Searches.SearchStops.{found_at, found_none}

byte_bit : (b : List ℕ) (s : ℕ) → bit_at 8 (byte b (s / 8)) (s % 8) ≡ marked b s
unfolding bit_at marked
byte_bit b s = let e : 8 - (s % 8 + 1) ≡ 7 - s % 8 = omega arith in ap (λ (n : ℕ). eqb (byte b (s / 8) / 2 ^ n % 2) 1) e

-- no byte passed over yet
pub Passed-none : (b : List ℕ) (q : ℕ) → q ≤ 256 → Passed b q q
Passed-none b q h = record { from = omega arith; to = h; none = λ s f t. absurd (omega arith) }

module _ (b : List ℕ) (h : Bytes b) where
  -- x is the number of the n bytes from i on
  pub record Spells (n i x : ℕ) : Type 0 where
    pub fits : x < 2 ^ (8 * n)
    pub bits : (k : ℕ) → k < 8 * n → bit_at (8 * n) x k ≡ bit_at 8 (byte b (i + k / 8)) (k % 8)

  one-byte : (i : ℕ) → Spells 1 i (byte b i)
  one-byte i = record {
    fits = h i;
    bits = λ k g.
        let e : i + k / 8 ≡ i = omega arith in
        let f : k % 8 ≡ k = omega arith in
        rw (e, f);
  }

  joined : (n m i x y : ℕ) → Spells n i x → Spells m (i + n) y → Spells (n + m) i (x * 2 ^ (8 * m) + y)
  joined n m i x y p q = record { fits = rw (e, pow-add) (digits_lt p.fits q.fits); bits = λ k g. rw e (by k (omega arith)) }
    where
      e : 8 * (n + m) ≡ 8 * n + 8 * m
      e = omega arith

      by : (k : ℕ) → k < 8 * n + 8 * m → bit_at (8 * n + 8 * m) (x * 2 ^ (8 * m) + y) k ≡ bit_at 8 (byte b (i + k / 8)) (k % 8)
      by k g = elim (dec_lt k (8 * n)) [
        | yes l ↦ high_bit (8 * n) (8 * m) x y k q.fits l ∙ p.bits k l
        | no l ↦
            let j = k - 8 * n in
            let a : k ≡ 8 * n + j = omega arith in
            let c : i + n + j / 8 ≡ i + k / 8 = omega arith in
            let d : j % 8 ≡ k % 8 = omega arith in
            ap (bit_at (8 * n + 8 * m) (x * 2 ^ (8 * m) + y)) a ∙ low_bit (8 * n) (8 * m) x y j q.fits (omega arith) ∙ q.bits j (omega arith) ∙ rw (c, d)
      ]

  two_bytes : (i : ℕ) → Spells 2 i (word b i)
  two_bytes i = rw (mul_comm 256 (byte b i)) (joined 1 1 i (byte b i) (byte b (i + 1)) (one-byte i) (one-byte (i + 1)))

  four_bytes : (i : ℕ) → Spells 4 i (long b i)
  four_bytes i = rw (mul_comm 65536 (word b i)) (joined 2 2 i (word b i) (word b (i + 2)) (two_bytes i) (two_bytes (i + 2)))

  eight_bytes : (q : ℕ) → Spells 8 (8 * q) (quad b q)
  unfolding quad
  eight_bytes q = rw (mul_comm 4294967296 (long b (8 * q))) (joined 4 4 (8 * q) (long b (8 * q)) (long b (8 * q + 4)) (four_bytes (8 * q)) (four_bytes (8 * q + 4)))

  quad-lt : (q : ℕ) → quad b q < 2 ^ 64
  quad-lt q = (eight_bytes q).fits

  pub quad_bit : (q k : ℕ) → k < 64 → bit_at 64 (quad b q) k ≡ marked b (64 * q + k)
  quad_bit q k g =
      let e : 8 * q + k / 8 ≡ (64 * q + k) / 8 = omega arith in
      let f : k % 8 ≡ (64 * q + k) % 8 = omega arith in
      (eight_bytes q).bits k g ∙ rw (e, f) (byte_bit b (64 * q + k))

  -- the clear bits of a byte, and the set ones of a quad's complement, are the free sectors
  pub byte_clear : (s : ℕ) → clear_at 8 (byte b (s / 8)) (s % 8) ≡ is_free b s
  unfolding clear_at is_free
  byte_clear s = ap not (byte_bit b s)

  pub quad_gap : (q k : ℕ) → k < 64 → bit_at 64 ((2 ^ 64 - 1) - quad b q) k ≡ is_free b (64 * q + k)
  unfolding is_free
  quad_gap q k g = not_bit 64 (quad b q) k (quad-lt q) g ∙ ap not (quad_bit q k g)

  -- one quad more that has no free sector
  pub Passed-more : (q j : ℕ) → j < 32 → Passed b q (8 * j) → quad b j ≡ 2 ^ 64 - 1 → Passed b q (8 * (j + 1))
  Passed-more q j l p z = record {
    from = omega (arith, p.from);
    to = omega arith;
    none = λ s f t. elim (dec_lt s (64 * j)) [
      | yes g ↦ p.none s f (omega arith)
      | no g ↦
          let e : 64 * j + (s - 64 * j) ≡ s = omega arith in
          let none : (2 ^ 64 - 1) - quad b j ≡ 0 = omega arith in
          rw e at (sym (quad_gap j (s - 64 * j) (omega arith)) ∙ zero_bit 64 ((2 ^ 64 - 1) - quad b j) (s - 64 * j) none)
    ];
  }

  -- the byte of sector i, from i on, by the place k of its first clear bit
  module _ (i k : ℕ) (e : k ≡ first (clear_at 8 (byte b (i / 8))) (i % 8) (8 - i % 8)) where
    in_byte : (s : ℕ) → s / 8 ≡ i / 8 → is_free b s ≡ clear_at 8 (byte b (i / 8)) (s % 8)
    in_byte s d = sym (rw d at (byte_clear s))

    none_before : (s : ℕ) → i ≤ s → s < 8 * (i / 8) + k → s < 8 * (i / 8) + 8 → is_free b s ≡ false
    none_before s l g f =
        in_byte s (omega arith) ∙ first_before (clear_at 8 (byte b (i / 8))) (i % 8) (8 - i % 8) (s % 8) (omega arith) (omega (arith, e))

    found_here : k < 8 → is_free b (8 * (i / 8) + k) ≡ true
    found_here l =
        let f : (8 * (i / 8) + k) % 8 ≡ k = omega arith in
        let g : (8 * (i / 8) + k) / 8 ≡ i / 8 = omega arith in
        in_byte (8 * (i / 8) + k) g ∙ rw f (rw (← e) at (first_holds (clear_at 8 (byte b (i / 8))) (i % 8) (8 - i % 8) (omega (arith, e))))

    -- the search stops there, or at t; or it goes on behind the quads that it passes over
    module _ (from : ℕ) (l : from ≤ i) (none : (s : ℕ) → from ≤ s → s < i → is_free b s ≡ false) where
      so_far : (s : ℕ) → from ≤ s → s < 8 * (i / 8) + k → s < 8 * (i / 8) + 8 → is_free b s ≡ false
      so_far s f g d = elim (dec_lt s i) [
        | yes m ↦ none s f m
        | no m ↦ none_before s (omega arith) g d
      ]

      pub stops : (t : ℕ) → i < t → k < 8 → min (8 * (i / 8) + k) t ≡ first (is_free b) from (t - from)
      stops t m g = elim (dec_lt (8 * (i / 8) + k) t) [
        | yes d ↦
            min-eq_left (omega arith)
            ∙ sym (found_at (is_free b) from (8 * (i / 8) + k) t (omega (arith, at_least)) d (λ s f y. so_far s f y (omega arith)) (found_here g))
        | no d ↦ min-eq_right (omega arith) ∙ sym (found_none (is_free b) from t (omega arith) (λ s f y. so_far s f (omega arith) (omega arith)))
      ]
        where
          at_least : i % 8 ≤ k
          at_least = rw (← e) at (first_from (clear_at 8 (byte b (i / 8))) (i % 8) (8 - i % 8))

      pub goes_on : (r : ℕ) → 8 ≤ k → Passed b (i / 8 + 1) r → (s : ℕ) → from ≤ s → s < 8 * r → is_free b s ≡ false
      goes_on r g p s f d = elim (dec_lt s (8 * (i / 8) + 8)) [
        | yes m ↦ so_far s f (omega arith) m
        | no m ↦ p.none s (omega arith) d
      ]
