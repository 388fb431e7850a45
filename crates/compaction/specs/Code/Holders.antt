-- The table of who has which data sector, a byte a sector, as the code fills and searches it.
use Rattle.std.specs.Prelude.{◌≡◌, Bool, not, List, [], ◌∷◌, ℕ, ◌+◌, ◌<◌, length, get_or, set, drop, eqb}
use Rattle.numbers.specs.Numbers.{most_sectors}
use Rattle.lists.specs.Lists.{index, among}
use Rattle.volume.specs.Directory.{entries}
use Rattle.compaction.specs.Compaction.{data_of, holder_of}

-- each of these sectors given to slot k
unfoldable pub given : ℕ → List ℕ → List ℕ → List ℕ
given k [] who = who
given k (x ∷ xs) who = given k xs (set who x k)

-- the lowest slot from k on that has sector x, or the number of slots
unfoldable pub holder_from : List ℕ → ℕ → ℕ → ℕ
holder_from img k x = k + index (λ e. among x (data_of img e)) (drop k (entries img))

-- the table, filled from slot k on; and whole
pub record HoldersFrom (img : List ℕ) (k : ℕ) (who : List ℕ) : Type 0 where
  pub long : length who ≡ most_sectors
  pub says : (x : ℕ) → x < most_sectors → get_or who x 0 ≡ holder_from img k x

pub record Holders (img who : List ℕ) : Type 0 where
  pub long : length who ≡ most_sectors
  pub says : (x : ℕ) → x < most_sectors → get_or who x 0 ≡ holder_of img x

-- sector x has a slot other than this number, which says that it holds no data
unfoldable pub is_held : List ℕ → ℕ → ℕ → Bool
is_held who none x = not (eqb (get_or who x 0) none)
