-- What the readers and writers of an access block ask of it, and what they make of its pairs.
use Rattle.std.specs.Prelude.{Bool, true, false, List, [], ◌++◌, ◌∷◌, map, ◌≡◌, ℕ, ◌+◌, ◌*◌, ◌≤◌, ◌-◌, ◌<◌, length, drop, get_or, eqb, leb}
use Rattle.numbers.specs.Numbers.{most_segments}
use Rattle.lists.specs.Lists.{all, ◌and◌, sum}
use Rattle.lists.specs.Parts.{zeros, bytes2}
use Rattle.ownership.specs.Blocks.{segments, total, stream_length, seg_start, seg_length, pairs, extended, extended_by, block_of}
use Rattle.ownership.specs.Blocks.{segment_sound}

-- pairs of words are four bytes each
unfoldable pub fours : List (List ℕ) → Bool
fours ps = all (λ p. eqb (length p) 4) ps

-- RULES, Soundness: point 3, at most 62 segments, and zeros after the n pairs
pub record BlockShaped (f : List ℕ) : Type 0 where
  pub whole : length f ≡ 256
  pub few : segments f ≤ most_segments
  pub rest : zeros (drop (8 + 4 * segments f) f) ≡ true

-- pair k, of those that a well-formed block has
abbrev pub pair_at : List ℕ → ℕ → List ℕ
pair_at f k = get_or (pairs f) k []

pub record HasSegment (f : List ℕ) (k : ℕ) : Type 0 where
  pub whole : length f ≡ 256
  pub few : segments f ≤ most_segments
  pub there : k < segments f

-- the last pair, or nothing
abbrev pub last_pair : List (List ℕ) → List ℕ
last_pair ps = get_or ps (length ps - 1) []

-- a pair of these two words
abbrev pub pair : ℕ → ℕ → List ℕ
pair s n = bytes2 s ++ bytes2 n

-- the block f with these pairs for its own
abbrev pub with_pairs : List ℕ → List (List ℕ) → List ℕ
with_pairs f ps = block_of ps (total f) (stream_length f)

-- each segment is inside a volume of t sectors, and their lengths sum to the total
abbrev pub segments_fit : ℕ → List ℕ → Bool
segments_fit t f = all (segment_sound t) (pairs f) and eqb (sum (map (λ p. seg_length p) (pairs f))) (total f)

-- s follows the last pair's segment directly
unfoldable pub follows : List (List ℕ) → ℕ → Bool
follows [] s = false
follows (p ∷ []) s = eqb (seg_start p + seg_length p) s
follows (p ∷ q ∷ ps) s = follows (q ∷ ps) s

-- the last pair's segment n sectors longer
unfoldable pub lengthened : List (List ℕ) → ℕ → List (List ℕ)
lengthened [] n = []
lengthened (p ∷ []) n = pair (seg_start p) (seg_length p + n) ∷ []
lengthened (p ∷ q ∷ ps) n = p ∷ lengthened (q ∷ ps) n

-- a well-formed block that sector s can join
pub record Extends (f : List ℕ) (s : ℕ) : Type 0 where
  pub shaped : BlockShaped f
  pub room : length (extended (pairs f) s) ≤ most_segments
  pub short : seg_length (last_pair (pairs f)) < 65535
  pub number : s < 65536

-- a well-formed block whose words can hold a run of n sectors from s on
pub record ExtendsRun (f : List ℕ) (s n : ℕ) : Type 0 where
  pub shaped : BlockShaped f
  pub short : seg_length (last_pair (pairs f)) + n < 65536
  pub number : s + n ≤ 65536

-- an answer r and a block f' after these sectors were to join the block f: whether 62 segments are enough, and if so the block with them
pub record Extended (f ss : List ℕ) (r : Bool) (f' : List ℕ) : Type 0 where
  pub answer : r ≡ leb (length (extended_by (pairs f) ss)) most_segments
  pub made : r ≡ true → f' ≡ with_pairs f (extended_by (pairs f) ss)
