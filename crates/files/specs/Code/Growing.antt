-- What an append asks: a sequential file of a sound volume, and room for the record.
use Rattle.std.specs.Prelude.{Option, Some, None, List, [], ◌∷◌, ◌≡◌, true, false, ℕ, ◌+◌, ◌≤◌, ◌*◌, ◌<◌, length, ltb, eqb}
use Rattle.numbers.specs.Numbers.{most_segments, most_sectors}
use Rattle.lists.specs.Lists.{all, distinct}
use Rattle.lists.specs.Parts.{sector, put_sector, in_sectors, sectors}
use Rattle.volume.specs.Sat.{with_bits, free}
use Rattle.volume.specs.Directory.{entry_at, contiguous, record_length}
use Rattle.volume.specs.declared.locate.Layout.{Layout}
use Rattle.records.specs.Streams.{laid}
use Rattle.records.specs.Code.Mapped.{Mapped}
use Rattle.records.specs.Records.{encoded, allowed}
use Rattle.ownership.specs.Blocks.{seg_start, seg_length, pairs, segment_sound, extended_by, block_of, sectors_of}
use Rattle.ownership.specs.Code.Shapes.{BlockShaped}
use Rattle.files.specs.Code.Opens.{Opens}
use Rattle.files.specs.Code.Slots.{InUse}
use Rattle.files.specs.Changes.{needed, new_pairs}

-- the sector after the last segment, if there is one
unfoldable pub next_after : List (List ℕ) → Option ℕ
next_after [] = None
next_after (p ∷ []) = Some (seg_start p + seg_length p)
next_after (p ∷ q ∷ ps) = next_after (q ∷ ps)

-- a well-formed access block that these sectors can join
pub record Grows (f ss : List ℕ) : Type 0 where
  pub shaped : BlockShaped f
  pub inside : all (segment_sound most_sectors) (pairs f) ≡ true
  pub room : length (extended_by (pairs f) ss) ≤ most_segments
  pub below : all (λ s. ltb s most_sectors) ss ≡ true

-- the access block in sector s of an image extended by these sectors, with e for its stream's length; they are marked in the table at
-- sector sat, and zeros are laid over them
unfoldable pub grown_with : ℕ → ℕ → ℕ → List ℕ → List ℕ → List ℕ
grown_with sat s e ss img =
    laid ss []
    (put_sector sat (with_bits 1 (sector sat img) ss)
    (put_sector s (block_of (extended_by (pairs (sector s img)) ss) (in_sectors e) e) img))

-- table and access block are two sectors of the image, which has these sectors too, and the block can take them
pub record Taking (img : List ℕ) (sat s : ℕ) (ss : List ℕ) : Type 0 where
  pub table : 256 * sat + 256 ≤ length img
  pub block : 256 * s + 256 ≤ length img
  pub two : eqb s sat ≡ false
  pub mapped : Mapped img ss
  pub grows : Grows (sector s img) ss

-- the record r of a file of record length l fits at place e of the stream whose access block is sector s
pub record RecordFits (img : List ℕ) (s e l : ℕ) (r : List ℕ) : Type 0 where
  pub opens : Opens img s
  pub once : distinct (sectors_of (sector s img)) ≡ true
  pub whole : length img ≡ 256 * sectors img
  pub short : length r < 65536
  pub room : e + length (encoded l r) ≤ 256 * length (sectors_of (sector s img))

-- r is a record for the sequential file in slot k
pub record Adds (img : List ℕ) (p : Layout) (k : ℕ) (r : List ℕ) : Type 0 where
  pub file : InUse img p k
  pub sequential : contiguous (entry_at img k) ≡ false
  pub fine : allowed (record_length (entry_at img k)) r ≡ true

-- and there are enough free sectors for it, and few enough segments then
pub record Takes (img : List ℕ) (p : Layout) (k : ℕ) (r : List ℕ) : Type 0 where
  pub adds : Adds img p k r
  pub enough : needed img (entry_at img k) r ≤ free img
  pub few : length (new_pairs img (entry_at img k) r) ≤ most_segments
