-- Bytes over sectors: laid over them, and read from them one after the other. Defines RULES, Streams and records (byte b of a stream).
use Rattle.std.specs.Prelude.{List, [], ◌∷◌, ℕ, take, drop}
use Rattle.lists.specs.Parts.{put_sector, filled, sector}
use Rattle.lists.specs.Lists.{flat}

-- bytes laid over sectors from the first one's start on, the last filled with zeros
unfoldable pub laid : List ℕ → List ℕ → List ℕ → List ℕ
laid [] bs img = img
laid (s ∷ ss) bs img = laid ss (drop 256 bs) (put_sector s (filled 256 (take 256 bs)) img)

-- the bytes of some sectors, one after the other
unfoldable pub laid_out : List ℕ → List ℕ → List ℕ
laid_out img ss = flat (λ s. sector s img) ss

unfoldable pub streams_open : Unit {0}
unfolding laid laid_out
streams_open = tt
