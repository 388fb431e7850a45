-- What the calls make of an image, which is looked at as the call finds it. Defines RULES, Allocate; Delete; Write; Update; Bring-up
-- (what they do).
use Rattle.std.specs.Prelude.{if◌then◌else◌, List, ◌++◌, ℕ, ◌*◌, ◌-◌, ◌+◌, eqb, length, set}
use Rattle.lists.specs.Lists.{range, flat}
use Rattle.lists.specs.Parts.{put, blanks, in_sectors, put_sector, part}
use Rattle.volume.specs.Volume.{sat, dir_at}
use Rattle.volume.specs.Directory.{fields, entry, put_entry, entries, entry_at, record_length, start, record_count, with_count, counted_as}
use Rattle.volume.specs.Sat.{with_bits, put_sat, lowest}
use Rattle.records.specs.Records.{encoded, stream_of}
use Rattle.records.specs.Streams.{laid}
use Rattle.ownership.specs.Owners.{owned, logical}
use Rattle.ownership.specs.Blocks.{block, total, pairs, extended_by, block_of}
use Rattle.files.specs.Files.{stream, records, records_in}

-- RULES, Allocate: an entry of kind k and read-protect code rc in slot at, and n sectors from s on marked and zeroed; a sequential file
-- takes one, for its access block
unfoldable pub taken : ℕ → ℕ → ℕ
taken k n = if eqb k 0 then n else 1

unfoldable pub allocated : ℕ → List ℕ → ℕ → ℕ → ℕ → ℕ → ℕ → List ℕ → List ℕ
allocated at d k n l rc s img =
    put_entry img at (entry (fields k d rc l s n))
    (put_sat img (with_bits 1 (sat img) (range s (taken k n)))
    (put (256 * s) (blanks (256 * taken k n)) img))

-- RULES, Delete: the entry is 32 zeros, and the SAT's bits of all sectors that the file owns are cleared
unfoldable pub deleted : ℕ → List ℕ → List ℕ
deleted at img =
    put_entry img at (blanks 32) (put_sat img (with_bits 0 (sat img) (owned img (entry_at img at))) img)

-- RULES, Write: an append: the stream with the record after it, the sectors needed beyond those that are there, the segments with them
unfoldable pub longer : List ℕ → List ℕ → List ℕ → List ℕ
longer img e r = stream img e ++ encoded (record_length e) r

unfoldable pub needed : List ℕ → List ℕ → List ℕ → ℕ
needed img e r = in_sectors (length (longer img e r)) - total (block img e)

unfoldable pub new_sectors : List ℕ → List ℕ → List ℕ → List ℕ
new_sectors img e r = lowest (needed img e r) img

unfoldable pub new_pairs : List ℕ → List ℕ → List ℕ → List (List ℕ)
new_pairs img e r = extended_by (pairs (block img e)) (new_sectors img e r)

-- .. the access block, the SAT and the data of a file with the record after its stream
unfoldable pub lengthened : List ℕ → List ℕ → List ℕ → List ℕ
lengthened e r img =
    put_sector (start e) (block_of (new_pairs img e r) (in_sectors (length (longer img e r))) (length (longer img e r)))
    (put_sat img (with_bits 1 (sat img) (new_sectors img e r))
    (laid (logical img e ++ new_sectors img e r) (longer img e r) img))

-- .. and the entry in its slot with a record count of one more
unfoldable pub one_more : List ℕ → List ℕ
one_more e = with_count (record_count e + 1) e

unfoldable pub appended : ℕ → List ℕ → List ℕ → List ℕ
appended k r img = put_entry img k (one_more (entry_at img k)) (lengthened (entry_at img k) r img)

-- RULES, Update: the stream of the records with r for number i
unfoldable pub updated : List ℕ → ℕ → List ℕ → List ℕ → List ℕ
updated e i r img = laid (logical img e) (stream_of (record_length e) (set (records img e) i r)) img

-- RULES, Read: n sectors of a contiguous file from number i on; RULES, Write: the data put over them
unfoldable pub sectors_at : List ℕ → ℕ → ℕ → List ℕ → List ℕ
sectors_at e i n img = part (256 * (start e + i)) (256 * n) img

unfoldable pub overwritten : List ℕ → ℕ → List ℕ → List ℕ → List ℕ
overwritten e i bs img = put (256 * (start e + i)) bs img

-- RULES, Bring-up: each sequential entry with the number of its stream's records for its record count; nothing else changes
unfoldable pub counted_in : List ℕ → List ℕ → List ℕ
counted_in img e = counted_as (records_in img e) e

unfoldable pub brought_up : List ℕ → List ℕ
brought_up img = put (256 * dir_at img) (flat (counted_in img) (entries img)) img

unfoldable pub changes_open : Unit {0}
unfolding taken allocated deleted longer needed new_sectors new_pairs lengthened one_more appended updated sectors_at overwritten counted_in
    brought_up
changes_open = tt
