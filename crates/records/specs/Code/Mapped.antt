-- A stream as the code holds it, by an image and the map of its sectors: what readers and writers ask of them.
use Rattle.std.specs.Prelude.{◌≡◌, true, List, ℕ, ◌*◌, ◌+◌, ◌≤◌, ◌<◌, length, get_or, take}
use Rattle.numbers.specs.Numbers.{most_sectors}
use Rattle.lists.specs.Lists.{distinct}
use Rattle.lists.specs.Parts.{sectors, put}
use Rattle.records.specs.Streams.{laid_out, laid}

-- every sector of the map lies in the image, and there are no more than a volume has
pub record Mapped (img ss : List ℕ) : Type 0 where
  pub inside : (k : ℕ) → k < length ss → 256 * get_or ss k 0 + 256 ≤ length img
  pub few : length ss ≤ most_sectors

-- whole sectors, and no sector of the map twice
pub record Spread (img ss : List ℕ) : Type 0 where
  pub mapped : Mapped img ss
  pub once : distinct ss ≡ true
  pub whole : length img ≡ 256 * sectors img

-- the image with the bytes b written at place i of the stream of the sectors ss
abbrev pub written_at : List ℕ → List ℕ → ℕ → List ℕ → List ℕ
written_at img ss i b = laid ss (put i b (laid_out img ss)) img

-- the first e bytes of the mapped sectors
unfoldable pub stream_in : List ℕ → List ℕ → ℕ → List ℕ
stream_in img ss e = take e (laid_out img ss)
