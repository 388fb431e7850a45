-- A stream as the code holds it: an image, and the map of a file's logical sectors.
use Rattle.std.specs.Prelude.{List, ◌≡◌, true, ℕ, ◌+◌, ◌*◌, ◌≤◌, length}
use Rattle.numbers.specs.Numbers.{most_sectors}
use Rattle.lists.specs.Parts.{sector, put}
use Rattle.records.specs.Code.Mapped.{Mapped, stream_in}
use Rattle.records.specs.Streams.{laid_out, laid}
use Rattle.ownership.specs.Blocks.{total, stream_length, sectors_of, block_sound}

-- the access block in sector s can be followed: it is sound, and its sectors lie in the image, no more than a volume has
pub record Opens (img : List ℕ) (s : ℕ) : Type 0 where
  pub inside : 256 * s + 256 ≤ length img
  pub block_sound : block_sound most_sectors (sector s img) ≡ true
  pub few : total (sector s img) ≤ most_sectors
  pub mapped : Mapped img (sectors_of (sector s img))
  pub ends : stream_length (sector s img) ≤ 256 * length (sectors_of (sector s img))

-- its sectors' bytes, and its stream
unfoldable pub stored_at : List ℕ → ℕ → List ℕ
stored_at img s = laid_out img (sectors_of (sector s img))

unfoldable pub stream_at : List ℕ → ℕ → List ℕ
stream_at img s = stream_in img (sectors_of (sector s img)) (stream_length (sector s img))

-- the image with the bytes b written at place i of its stream
abbrev pub rewritten_at : List ℕ → ℕ → ℕ → List ℕ → List ℕ
rewritten_at img s i b = laid (sectors_of (sector s img)) (put i b (stored_at img s)) img
