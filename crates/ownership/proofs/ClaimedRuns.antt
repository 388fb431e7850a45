-- A run claimed: the bytes that it fills at once, between the sectors before and after them.
use mathlib.Core.Path.{◌≡◌, sym, ap, ◌∙◌}
use mathlib.Core.Bool.{Bool, true, false, not, false≢true}
use mathlib.Core.List.{List}
use Prim.Native.Nat.{ℕ, ◌+◌, ◌-◌, ◌*◌, ◌/◌, ◌<◌, ◌≤◌}
use native.Mathlib.Omega.{arith}
use lib.Dec.{eqb}
use lib.ListN.{length, take, drop, replicate}
use borrow.Author.Tests.{eqb-true, not-true}
use borrow.Rule.Slice.PartMut.{put_mid}
use Rattle.numbers.specs.Numbers.{most_sectors}
use Rattle.lists.specs.Lists.{all, range}
use Rattle.lists.specs.Parts.{byte, part, put, zeros, blanks}
use Rattle.lists.proofs.Alike.{all_alike}
use Rattle.lists.proofs.AreBytes.{Bytes}
use Rattle.lists.proofs.Blanks.{get_or-blanks}
use Rattle.lists.proofs.Bools.{agree}
use Rattle.lists.proofs.LentParts.{length-part, byte-part, wrote_fill}
use Rattle.lists.proofs.Lists.{all_at}
use Rattle.lists.proofs.Puts.{length-blanks}
use Rattle.lists.proofs.Ranges.{all_each}
use Rattle.lists.proofs.Tests.{zeros-blanks}
use Rattle.volume.specs.Sat.{marked, is_free}
use Rattle.volume.proofs.Bits.{range_each, zero_byte, byte_zero}
use Rattle.volume.proofs.SatRuns.{range_bytes, with_bits_bytes}
use Rattle.ownership.specs.Code.Claims.{claim, Claims}
use Rattle.ownership.proofs.ClaimMeaning.{claim-range}
use Rattle.ownership.proofs.ClaimsFollow.{Claims-then, Claims-fails}

-- n bytes from a on: they are zeros where each of their sectors is free
module _ (m : List ℕ) (a n : ℕ) (b : Bytes m) (l : length m ≡ 256) (fits : a + n ≤ 256) where
  long : length (part a n m) ≡ n
  long = length-part a n m (omega arith)

  zero_at : zeros (part a n m) ≡ true → (u : ℕ) → 8 * a ≤ u → u < 8 * a + 8 * n → byte m (u / 8) ≡ 0
  zero_at z u h g =
      let k : u / 8 ≡ a + (u / 8 - a) = omega arith in
      ap (byte m) k ∙ sym (byte-part a n m (u / 8 - a) (omega arith))
      ∙ eqb-true _ _ (all_at (λ x. eqb x 0) (part a n m) (u / 8 - a) 0 z (omega (arith, long)))

  zeros_there : all (is_free m) (range (8 * a) (8 * n)) ≡ true → zeros (part a n m) ≡ true
  unfolding is_free
  zeros_there e =
      all_alike 0 _ _ (blanks n) (part a n m) (long ∙ sym (length-blanks n)) (λ i h.
      let k : i < n = omega (arith, length-blanks n) in
      let z : byte m (a + i) ≡ 0 =
      byte_zero m (a + i) (b (a + i)) (omega arith) (λ s p q. not-true (marked m s) (range_each (is_free m) (8 * a) (8 * n) e s (omega arith) (omega arith))) in
      rw (byte-part a n m i k, z, get_or-blanks n i))
      ∙ zeros-blanks n

  claim_bytes : claim m (range (8 * a) (8 * n)) ≡ zeros (part a n m)
  unfolding is_free
  claim_bytes =
      claim-range m (8 * a) (8 * n) b l (omega arith)
      ∙ agree _ _ zeros_there (λ z. all_each (is_free m) (8 * a) (8 * n) (λ u h g. ap not (zero_byte m u (zero_at z u h g))))

  bytes_free : zeros (part a n m) ≡ true → Claims (range (8 * a) (8 * n)) m true (put a (replicate n 255) m)
  bytes_free z = record { answer = sym (claim_bytes ∙ z); marks = λ e. sym (with_bits_bytes 1 m (omega arith) b l a n fits) }

  bytes_taken : (m' : List ℕ) → zeros (part a n m) ≡ false → Claims (range (8 * a) (8 * n)) m false m'
  bytes_taken m' z = record { answer = sym (claim_bytes ∙ z); marks = λ e. absurd (false≢true e) }

-- a run, as the code claims it: the sectors before its bytes from a up to e, these as a part that is lent, and the sectors after them
module _ (m m₁ : List ℕ) (s n a e : ℕ) (h : s ≤ 8 * a) (g : a ≤ e) (f : 8 * e ≤ s + n) where
  pub before_fails : {m₂ : List ℕ} → Claims (range s (8 * a - s)) m false m₁ → Claims (range s n) m false m₂
  before_fails p = rw (range_bytes s n a e h g f) (Claims-fails _ p)

  module _ (b : Bytes m₁) (l : length m₁ ≡ 256) (high : s + n ≤ most_sectors) (p : Claims (range s (8 * a - s)) m true m₁) where
    pub bytes_fail : {m₂ : List ℕ} → zeros (take (e - a) (drop a m₁)) ≡ false → Claims (range s n) m false m₂
    unfolding part
    bytes_fail {m₂} z = rw (range_bytes s n a e h g f) (Claims-then p (Claims-fails _ (bytes_taken m₁ a (e - a) b l (omega arith) m₂ z)))

    pub bytes_then : {d m₂ : List ℕ} {r : Bool} → zeros (take (e - a) (drop a m₁)) ≡ true → d ≡ replicate (length (take (e - a) (drop a m₁))) 255
        → Claims (range (8 * e) (s + n - 8 * e)) (put_mid a (e - a) m₁ d) r m₂ → Claims (range s n) m r m₂
    unfolding part
    bytes_then {d} z q t =
        rw (range_bytes s n a e h g f)
        (Claims-then p (Claims-then (bytes_free m₁ a (e - a) b l (omega arith) z) (rw (wrote_fill a e 255 m₁ d g (omega arith) q) at t)))
