-- A file's stream and records, the rest of soundness, and `sound` as a whole. Defines RULES, Streams and records; Soundness.
use Rattle.std.specs.Prelude.{if◌then◌else◌, List, [], Bool, ℕ, eqb, take, drop, get_or, length}
use Rattle.lists.specs.Lists.{◌or◌, ◌and◌, all}
use Rattle.lists.specs.Parts.{zeros}
use Rattle.volume.specs.Directory.{record_length, contiguous, size, record_count, unused, entries, sound2}
use Rattle.volume.specs.Volume.{sound1}
use Rattle.records.specs.Streams.{laid_out}
use Rattle.records.specs.Records.{records_of, whole_records}
use Rattle.ownership.specs.Owners.{logical, sound5}
use Rattle.ownership.specs.Blocks.{block, stream_length, sound3}

-- RULES, Streams and records: a sequential file's bytes, its stream of E bytes, then the tail of its last sector
unfoldable pub stored : List ℕ → List ℕ → List ℕ
stored img e = laid_out img (logical img e)

unfoldable pub stream : List ℕ → List ℕ → List ℕ
stream img e = take (stream_length (block img e)) (stored img e)

unfoldable pub tail : List ℕ → List ℕ → List ℕ
tail img e = drop (stream_length (block img e)) (stored img e)

-- its records, and the record of a number
unfoldable pub records : List ℕ → List ℕ → List (List ℕ)
records img e = records_of (record_length e) (stream img e)

unfoldable pub record_at : List ℕ → List ℕ → ℕ → List ℕ
record_at img e i = get_or (records img e) i []

-- RULES, Streams and records: the extent, in sectors if contiguous, in records if sequential
unfoldable pub extent : List ℕ → List ℕ → ℕ
extent img e = if contiguous e then size e else length (records img e)

-- RULES, Soundness: point 3, the tail is all zero
unfoldable pub tail_sound : List ℕ → List ℕ → Bool
tail_sound img e = unused e or contiguous e or zeros (tail img e)

-- RULES, Soundness: point 4, the stream is whole records
unfoldable pub records_sound : List ℕ → List ℕ → Bool
records_sound img e = unused e or contiguous e or whole_records (record_length e) (stream img e)

unfoldable pub sound4 : List ℕ → Bool
sound4 img = all (λ e. tail_sound img e and records_sound img e) (entries img)

-- RULES, Soundness: the five points, but for what point 4 says of record counts
unfoldable pub sound_but_counts : List ℕ → Bool
sound_but_counts img = sound1 img and sound2 img and sound3 img and sound4 img and sound5 img

-- each sequential entry's record count is the number that is given for the entry
unfoldable pub count_is : (List ℕ → ℕ) → List ℕ → Bool
count_is f e = unused e or contiguous e or eqb (record_count e) (f e)

unfoldable pub counts_are : (List ℕ → ℕ) → List ℕ → Bool
counts_are f img = all (count_is f) (entries img)

-- RULES, Soundness: point 4, an entry's record count is the number of its stream's records
unfoldable pub records_in : List ℕ → List ℕ → ℕ
records_in img e = length (records img e)

unfoldable pub sound : List ℕ → Bool
sound img = sound_but_counts img and counts_are (records_in img) img

-- RULES, Bring-up: soundness as it was before there were record counts, when those bytes were zero
unfoldable pub no_count : List ℕ → ℕ
no_count e = 0

unfoldable pub sound_before : List ℕ → Bool
sound_before img = sound_but_counts img and counts_are no_count img

unfoldable pub files_open : Unit {0}
unfolding stored stream tail records record_at extent tail_sound records_sound sound4 sound_but_counts count_is counts_are records_in sound no_count
    sound_before
files_open = tt
