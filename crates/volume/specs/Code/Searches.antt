-- The SAT as the searches go through it: bytes and quads, which are eight bytes as one number, and their bits counted from the top.
use Rattle.std.specs.Prelude.{Bool, true, false, not, List, ◌≡◌, ℕ, ◌+◌, ◌-◌, ◌/◌, ◌%◌, ◌^◌, ◌*◌, ◌≤◌, ◌<◌, leb, eqb, length}
use Rattle.lists.specs.Lists.{range, ◌and◌, all, kept}
use Rattle.lists.specs.Parts.{long}
use Rattle.volume.specs.Sat.{is_free}

-- bit k of a number of w bits is 1; it is 0
unfoldable pub bit_at : ℕ → ℕ → ℕ → Bool
bit_at w x k = eqb (x / 2 ^ (w - (k + 1)) % 2) 1

unfoldable pub clear_at : ℕ → ℕ → ℕ → Bool
clear_at w x k = not (bit_at w x k)

-- how many bits of a byte are clear
unfoldable pub clear_bits : ℕ → ℕ
clear_bits b = length (kept (bit_at 8 (255 - b)) (range 0 8))

-- quad q of the table, the highest byte first: the bits of the sectors from 64 q on
unfoldable pub quad : List ℕ → ℕ → ℕ
quad b q = 4294967296 * long b (8 * q) + long b (8 * q + 4)

-- no sector of the bytes from q up to r is free
pub record Passed (b : List ℕ) (q r : ℕ) : Type 0 where
  pub from : q ≤ r
  pub to : r ≤ 256
  pub none : (s : ℕ) → 8 * q ≤ s → s < 8 * r → is_free b s ≡ false

-- the bits of a quad are clear from r on, and the one before r is set
pub record EndsAt (x r : ℕ) : Type 0 where
  pub within : r ≤ 64
  pub clear : (k : ℕ) → r ≤ k → k < 64 → bit_at 64 x k ≡ false
  pub last : (k : ℕ) → k + 1 ≡ r → bit_at 64 x k ≡ true

-- n bits of a quad from k on are all set
unfoldable pub row_at : ℕ → ℕ → ℕ → Bool
row_at x n k = leb (k + n) 64 and all (bit_at 64 x) (range k n)
