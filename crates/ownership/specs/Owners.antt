-- Who owns which sector, the SAT's bits, and point 5 of soundness. Defines RULES, Owners of sectors; Soundness (point 5).
use Rattle.std.specs.Prelude.{if◌then◌else◌, List, [], ◌∷◌, ◌++◌, Bool, ℕ}
use Rattle.lists.specs.Lists.{range, flat, ◌and◌, distinct, same}
use Rattle.lists.specs.Parts.{sectors}
use Rattle.volume.specs.Directory.{contiguous, start, size, unused, entries}
use Rattle.volume.specs.Volume.{system, sat}
use Rattle.volume.specs.Sat.{sat_of}
use Rattle.ownership.specs.Blocks.{block, sectors_of}

-- RULES, Owners of sectors: a file's logical sectors, from 0
unfoldable pub logical : List ℕ → List ℕ → List ℕ
logical img e = if contiguous e then range (start e) (size e) else sectors_of (block img e)

-- RULES, Owners of sectors: what an entry owns, its logical sectors, and the access block of a sequential file
unfoldable pub owned : List ℕ → List ℕ → List ℕ
owned img e = if unused e then [] else (if contiguous e then logical img e else start e ∷ logical img e)

unfoldable pub all_owned : List ℕ → List ℕ
all_owned img = system img ++ flat (owned img) (entries img)

-- RULES, Soundness: point 5, no sector has two owners; the SAT marks every owned sector, every number from T on, and no other
unfoldable pub sound5 : List ℕ → Bool
sound5 img = distinct (all_owned img) and same (sat img) (sat_of (sectors img) (all_owned img))

unfoldable pub owners_open : Unit {0}
unfolding logical owned all_owned sound5
owners_open = tt
