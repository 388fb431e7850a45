-- One sector of a sequential file moved to a free one. Defines RULES, Moving a sector.
use Rattle.std.specs.Prelude.{List, [], ℕ, get_or, set}
use Rattle.lists.specs.Parts.{sector, put_sector}
use Rattle.volume.specs.Volume.{sat}
use Rattle.volume.specs.Directory.{start}
use Rattle.volume.specs.Sat.{with_bit, put_sat}
use Rattle.ownership.specs.Owners.{logical}
use Rattle.ownership.specs.Blocks.{block, total, stream_length, extended_by, block_of}

-- the sector of number i of the file with entry e
unfoldable pub sector_of : List ℕ → List ℕ → ℕ → ℕ
sector_of img e i = get_or (logical img e) i 0

-- RULES, Moving a sector: the file's sectors with q for number i, and the fewest segments that give them in this order: joined from nothing
unfoldable pub rerouted : List ℕ → List ℕ → ℕ → ℕ → List ℕ
rerouted img e i q = set (logical img e) i q

unfoldable pub rerouted_pairs : List ℕ → List ℕ → ℕ → ℕ → List (List ℕ)
rerouted_pairs img e i q = extended_by [] (rerouted img e i q)

-- RULES, Moving a sector: the data of number i go to sector q, which is marked; the old one is marked free, and its bytes stay; the access
-- block gets the segments
unfoldable pub relocated : List ℕ → ℕ → ℕ → List ℕ → List ℕ
relocated e i q img =
    put_sector (start e) (block_of (rerouted_pairs img e i q) (total (block img e)) (stream_length (block img e)))
    (put_sat img (with_bit 0 (with_bit 1 (sat img) q) (sector_of img e i))
    (put_sector q (sector (sector_of img e i) img) img))

unfoldable pub moves_open : Unit {0}
unfolding sector_of rerouted rerouted_pairs relocated
moves_open = tt
