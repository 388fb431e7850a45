-- What the functions that move a sector ask for, and what they make on the way.
use Rattle.std.specs.Prelude.{if◌then◌else◌, ◌≡◌, true, false, List, ◌≢◌, ℕ, ◌-◌, ◌*◌, ◌<◌, ◌≤◌, length, set, ltb}
use Rattle.numbers.specs.Numbers.{most_sectors}
use Rattle.lists.specs.Lists.{range, all}
use Rattle.lists.specs.Parts.{sectors, sector, put_sector}
use Rattle.volume.specs.Volume.{sat}
use Rattle.volume.specs.Directory.{entry_at, contiguous}
use Rattle.volume.specs.Sat.{is_free, with_bit}
use Rattle.volume.specs.declared.locate.Layout.{Layout}
use Rattle.ownership.specs.Blocks.{pairs, segment_sound, block_sound}
use Rattle.ownership.specs.Owners.{logical}
use Rattle.ownership.specs.Code.Shapes.{BlockShaped}
use Rattle.files.specs.Code.Slots.{InUse}
use Rattle.moves.specs.Moves.{sector_of}

-- the n sectors from s on, which are those of number `at` and on, with q for number i if it is one of them
unfoldable pub run_with : ℕ → ℕ → ℕ → ℕ → ℕ → List ℕ
run_with at s n i q = if ltb i at then range s n else set (range s n) (i - at) q

-- a well-formed access block whose segments lie inside the largest volume
pub record TakesRuns (g : List ℕ) : Type 0 where
  pub shaped : BlockShaped g
  pub inside : all (segment_sound most_sectors) (pairs g) ≡ true

-- a sound access block f, any of whose sectors can be q, and a block g to make that in
pub record Reroutes (f : List ℕ) (q : ℕ) (g : List ℕ) : Type 0 where
  pub block_sound : block_sound most_sectors f ≡ true
  pub below : q < most_sectors
  pub takes : TakesRuns g

-- number i of the sequential file in slot k is the sector `from`, and the sector `to` is free
pub record Movable (img : List ℕ) (p : Layout) (k i from to : ℕ) : Type 0 where
  pub file : InUse img p k
  pub sequential : contiguous (entry_at img k) ≡ false
  pub number : i < length (logical img (entry_at img k))
  pub is_from : from ≡ sector_of img (entry_at img k) i
  pub inside : to < sectors img
  pub is_free : is_free (sat img) to ≡ true

-- the image with sector `from` copied over sector `to`, the marks of both in the table at sector sat, and the block b in sector s
unfoldable pub moved_with : ℕ → ℕ → ℕ → ℕ → List ℕ → List ℕ → List ℕ
moved_with sat s from to b img =
    put_sector s b
    (put_sector sat (with_bit 0 (with_bit 1 (sector sat img) to) from)
    (put_sector to (sector from img) img))

-- these are sectors of an image, and the one that is written first is not the table
pub record Writes (img : List ℕ) (sat s from to : ℕ) : Type 0 where
  pub whole : length img ≡ 256 * sectors img
  pub high : sectors img ≤ most_sectors
  pub table : sat < sectors img
  pub block : s < sectors img
  pub old : from < sectors img
  pub new : to < sectors img
  pub two : to ≢ sat
