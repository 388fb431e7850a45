-- Sectors of one byte claimed at once, as the code does it: their bits are tested by two shifts, and marked by one sum. On the byte alone this
-- is one computed test over every byte, place and number; the table has the rest.
use Rattle.std.specs.Prelude.{if◌then◌else◌}
use mathlib.Core.Path.{◌≡◌, refl, sym, ap, ◌∙◌}
use mathlib.Core.Bool.{Bool, true, false, not, false≢true}
use mathlib.Core.List.{List}
use Prim.Native.Nat.{ℕ, zero, suc, ◌+◌, ◌-◌, ◌*◌, ◌/◌, ◌%◌, ◌^◌, ◌<◌, ◌≤◌}
use native.Mathlib.Omega.{arith}
use lib.Dec.{eqb, ltb, leb}
use lib.ListN.{length, set, length-set}
use lib.Seq.{get_or-set_same, set-get_or, set-set}
use borrow.Author.Tests.{eqb-true, ltb-true, leb-true, eq-eqb, ne_eqb, not-true}
use Rattle.lists.specs.Lists.{◌and◌, all, range}
use Rattle.lists.specs.Parts.{byte}
use Rattle.lists.proofs.AreBytes.{Bytes}
use Rattle.lists.proofs.Tests.{and_left, and_right}
use Rattle.volume.specs.Sat.{marked, is_free, with_bit, with_bits}
use Rattle.volume.proofs.Bits.{all-range, range_each, made}
use Rattle.ownership.specs.Code.Claims.{claim, Claims}
use Rattle.ownership.proofs.ClaimsFollow.{Claims-none}

-- n bits of a byte from k on, claimed one after the other: are they all clear, and the byte after that
unfoldable free_in : ℕ → ℕ → ℕ → Bool
free_in b k zero = true
free_in b k (suc n) = not (eqb (b / 2 ^ (7 - k) % 2) 1) and free_in (made 1 b k) (suc k) n

unfoldable set_in : ℕ → ℕ → ℕ → ℕ
set_in b k zero = b
set_in b k (suc n) = set_in (made 1 b k) (suc k) n

-- the byte of sector s, where s is bit k of byte q
module _ (s q k : ℕ) (e : s ≡ 8 * q + k) (h : k < 8) where
  free_here : (m : List ℕ) → is_free m s ≡ not (eqb (byte m q / 2 ^ (7 - k) % 2) 1)
  unfolding is_free marked
  free_here m =
      let i : s / 8 ≡ q = omega arith in
      let j : s % 8 ≡ k = omega arith in
      rw (i, j)

  set_here : (m : List ℕ) → with_bit 1 m s ≡ set m q (made 1 (byte m q) k)
  unfolding with_bit made
  set_here m =
      let i : s / 8 ≡ q = omega arith in
      let j : s % 8 ≡ k = omega arith in
      rw (i, j)

claim_in : (m : List ℕ) (s q k n : ℕ) → s ≡ 8 * q + k → k + n ≤ 8 → q < length m → claim m (range s n) ≡ free_in (byte m q) k n
unfolding claim range free_in
claim_in m s q k zero e h g = refl
claim_in m s q k (suc n) e h g =
    rw (free_here s q k e (omega arith) m, set_here s q k e (omega arith) m)
    (ap (λ (t : Bool). not (eqb (byte m q / 2 ^ (7 - k) % 2) 1) and t)
    (claim_in (set m q (made 1 (byte m q) k)) (suc s) q (suc k) n (omega arith) (omega arith) (rw length-set g)
    ∙ ap (λ (x : ℕ). free_in x (suc k) n) (get_or-set_same m q (made 1 (byte m q) k) 0 g)))

set_in_lem : (m : List ℕ) (s q k n : ℕ) → s ≡ 8 * q + k → k + n ≤ 8 → q < length m → with_bits 1 m (range s n) ≡ set m q (set_in (byte m q) k n)
unfolding with_bits range set_in
set_in_lem m s q k zero e h g = sym (set-get_or m q 0)
set_in_lem m s q k (suc n) e h g =
    ap (λ (l : List ℕ). with_bits 1 l (range (suc s) n)) (set_here s q k e (omega arith) m)
    ∙ set_in_lem (set m q (made 1 (byte m q) k)) (suc s) q (suc k) n (omega arith) (omega arith) (rw length-set g)
    ∙ rw (get_or-set_same m q (made 1 (byte m q) k) 0 g) (set-set m q (made 1 (byte m q) k) (set_in (made 1 (byte m q) k) (suc k) n))

-- the shifts that test n bits from k on, and the sum that marks them
unfoldable tested : ℕ → ℕ → ℕ → ℕ
tested b k n = b * 2 ^ k % 256 / 2 ^ (8 - n)

unfoldable added : ℕ → ℕ → ℕ → ℕ
added b k n = b + 255 * 2 ^ (8 - n) % 256 / 2 ^ k

unfoldable right : ℕ → ℕ → ℕ → Bool
right b k n = if eqb (tested b k n) 0 then free_in b k n and (eqb (added b k n) (set_in b k n) and ltb (added b k n) 256) else not (free_in b k n)

all-right : all (λ b. all (λ k. all (λ n. right b k n) (range 1 (8 - k))) (range 0 8)) (range 0 256) ≡ true
unfolding all range ◌and◌ right tested added free_in set_in made
all-right = refl

module _ (b k n : ℕ) (hb : b < 256) (h : 0 < n) (g : k + n ≤ 8) where
  is_right : right b k n ≡ true
  is_right =
      range_each (λ j. right b k j) 1 (8 - k)
      (all-range (λ i. all (λ j. right b i j) (range 1 (8 - i))) 8
      (all-range (λ x. all (λ i. all (λ j. right x i j) (range 1 (8 - i))) (range 0 8)) 256 all-right b hb) k (omega arith)) n (omega arith) (omega arith)

  taken_in : (tested b k n ≡ 0 → ⊥) → free_in b k n ≡ false
  unfolding right
  taken_in t = not-true (free_in b k n) (rw (ne_eqb (tested b k n) 0 t) at is_right)

  clear_in : tested b k n ≡ 0 → free_in b k n and (eqb (added b k n) (set_in b k n) and ltb (added b k n) 256) ≡ true
  unfolding right
  clear_in t = rw (eq-eqb (tested b k n) 0 t) at is_right

-- of the bytes that are so shifted 255 makes the most: a sum with any of them fits
most : all (λ x. all (λ k. all (λ n. leb (x * 2 ^ (8 - n) % 256 / 2 ^ k) (255 * 2 ^ (8 - n) % 256 / 2 ^ k)) (range 0 9)) (range 0 8)) (range 0 256) ≡ true
unfolding all range ◌and◌
most = refl

at_most : (x k n : ℕ) → x < 256 → k < 8 → n < 9 → x * 2 ^ (8 - n) % 256 / 2 ^ k ≤ 255 * 2 ^ (8 - n) % 256 / 2 ^ k
at_most x k n hx hk hn =
    leb-true _ _ (all-range (λ j. leb (x * 2 ^ (8 - j) % 256 / 2 ^ k) (255 * 2 ^ (8 - j) % 256 / 2 ^ k)) 9
    (all-range (λ i. all (λ j. leb (x * 2 ^ (8 - j) % 256 / 2 ^ i) (255 * 2 ^ (8 - j) % 256 / 2 ^ i)) (range 0 9)) 8
    (all-range (λ y. all (λ i. all (λ j. leb (y * 2 ^ (8 - j) % 256 / 2 ^ i) (255 * 2 ^ (8 - j) % 256 / 2 ^ i)) (range 0 9)) (range 0 8)) 256 most x hx) k hk) n hn)

-- n sectors from s on, all of one byte
pub bits_none : (m : List ℕ) (s n : ℕ) → n ≡ 0 → Claims (range s n) m true m
unfolding range
bits_none m s n h = rw h (Claims-none m)

module _ (m : List ℕ) (s n : ℕ) (b : Bytes m) (l : s / 8 < length m) (h : n ≡ 0 → ⊥) (g : s % 8 + n ≤ 8) where
  abbrev here : ℕ
  here = byte m (s / 8)

  pub bits_fail : {m' : List ℕ} → (here * 2 ^ (s % 8) % 256 / 2 ^ (8 - n) ≡ 0 → ⊥) → Claims (range s n) m false m'
  unfolding tested
  bits_fail t = record {
    answer = sym (claim_in m s (s / 8) (s % 8) n (omega arith) g l ∙ taken_in here (s % 8) n (b (s / 8)) (omega arith) g t);
    marks = λ e. absurd (false≢true e);
  }

  module _ (t : here * 2 ^ (s % 8) % 256 / 2 ^ (8 - n) ≡ 0) where
    clear : free_in here (s % 8) n and (eqb (added here (s % 8) n) (set_in here (s % 8) n) and ltb (added here (s % 8) n) 256) ≡ true
    unfolding tested
    clear = clear_in here (s % 8) n (b (s / 8)) (omega arith) g t

    pub bits_fit : (x : ℕ) → x < 256 → here + x * 2 ^ (8 - n) % 256 / 2 ^ (s % 8) < 256
    unfolding added
    bits_fit x hx =
        let full : here + 255 * 2 ^ (8 - n) % 256 / 2 ^ (s % 8) < 256 = ltb-true _ _ (and_right _ _ (and_right _ _ clear)) in
        omega (arith, at_most x (s % 8) n hx (omega arith) (omega arith))

    pub bits_met : Claims (range s n) m true (set m (s / 8) (here + 255 * 2 ^ (8 - n) % 256 / 2 ^ (s % 8)))
    unfolding added
    bits_met = record {
      answer = sym (claim_in m s (s / 8) (s % 8) n (omega arith) g l ∙ and_left _ _ clear);
      marks = λ e. ap (set m (s / 8)) (eqb-true _ _ (and_left _ _ (and_right _ _ clear))) ∙ sym (set_in_lem m s (s / 8) (s % 8) n (omega arith) g l);
    }
