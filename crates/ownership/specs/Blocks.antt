-- Access blocks, and point 3 of soundness but for the stream's tail. Defines RULES, Access blocks; Soundness (point 3).
use Rattle.std.specs.Prelude.{if◌then◌else◌, List, [], ◌∷◌, ◌++◌, map, Bool, true, ℕ, ◌+◌, ◌*◌, drop, length, eqb, leb, ltb}
use Rattle.numbers.specs.Numbers.{most_segments}
use Rattle.lists.specs.Parts.{sector, word, long, bytes2, bytes4, filled, in_sectors, zeros, sectors}
use Rattle.lists.specs.Lists.{pieces, range, flat, ◌and◌, all, sum}
use Rattle.volume.specs.Directory.{start, unused, contiguous, size, entries}

unfoldable pub block : List ℕ → List ℕ → List ℕ
block img e = sector (start e) img

-- RULES, Access blocks: word 0 is n, word 2 the total of data sectors, bytes 4-7 are E; the pairs stand from byte 8 on
abbrev pub segments : List ℕ → ℕ
segments f = word f 0

abbrev pub total : List ℕ → ℕ
total f = word f 2

abbrev pub stream_length : List ℕ → ℕ
stream_length f = long f 4

unfoldable pub pairs : List ℕ → List (List ℕ)
pairs f = pieces (segments f) 4 (drop 8 f)

abbrev pub seg_start : List ℕ → ℕ
seg_start p = word p 0

abbrev pub seg_length : List ℕ → ℕ
seg_length p = word p 2

-- a segment's sectors, and those of all segments in order
unfoldable pub segment : List ℕ → List ℕ
segment p = range (seg_start p) (seg_length p)

unfoldable pub sectors_of : List ℕ → List ℕ
sectors_of f = flat segment (pairs f)

-- RULES, Access blocks: a sector that joins a file makes its last segment longer if it comes right after it; else it starts a new one
unfoldable pub extended : List (List ℕ) → ℕ → List (List ℕ)
extended [] s = (bytes2 s ++ bytes2 1) ∷ []
extended (p ∷ []) s =
    if eqb (seg_start p + seg_length p) s
    then (bytes2 (seg_start p) ++ bytes2 (seg_length p + 1)) ∷ []
    else p ∷ (bytes2 s ++ bytes2 1) ∷ []
extended (p ∷ q ∷ ps) s = p ∷ extended (q ∷ ps) s

unfoldable pub extended_by : List (List ℕ) → List ℕ → List (List ℕ)
extended_by ps [] = ps
extended_by ps (s ∷ ss) = extended_by (extended ps s) ss

-- an access block of these pairs, total and stream length; RULES, Access blocks: every byte after the pairs is zero
unfoldable pub block_of : List (List ℕ) → ℕ → ℕ → List ℕ
block_of ps n e =
    filled 256
    (bytes2 (length ps) ++ (bytes2 n ++ (bytes4 e ++ flat (λ p. p) ps)))

-- RULES, Soundness: point 3, a segment of 1 or more sectors that ends at or before T
unfoldable pub segment_sound : ℕ → List ℕ → Bool
segment_sound t p = leb 1 (seg_length p) and leb (seg_start p + seg_length p) t

-- RULES, Soundness: point 3, at most 62 segments, zeros after the n pairs, the segments, and their total, which is E in sectors
unfoldable pub block_sound : ℕ → List ℕ → Bool
block_sound t f =
    leb (segments f) most_segments and zeros (drop (8 + 4 * segments f) f) and all (segment_sound t) (pairs f)
    and eqb (sum (map (λ p. seg_length p) (pairs f))) (total f) and eqb (total f) (in_sectors (stream_length f))

-- RULES, Soundness: point 3, of a contiguous file, and of a sequential one with its access block
unfoldable pub placed : List ℕ → List ℕ → Bool
placed img e =
    if unused e
    then true
    else (if contiguous e
    then leb (start e + size e) (sectors img)
    else ltb (start e) (sectors img) and block_sound (sectors img) (block img e))

-- RULES, Soundness: point 3, but for the tail
unfoldable pub sound3 : List ℕ → Bool
sound3 img = all (placed img) (entries img)

unfoldable pub blocks_open : Unit {0}
unfolding block pairs segment sectors_of extended extended_by block_of segment_sound block_sound placed sound3
blocks_open = tt
