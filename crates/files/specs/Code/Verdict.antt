-- The verdicts on a file and on a volume, as the code answers them.
use Rattle.std.specs.Prelude.{if◌then◌else◌, List, Bool, ℕ, drop, Option, Some, None}
use Rattle.lists.specs.Lists.{◌and◌, ◌or◌}
use Rattle.lists.specs.Parts.{sector, zeros}
use Rattle.volume.specs.Directory.{unused, contiguous}
use Rattle.volume.specs.Volume.{layout_of}
use Rattle.volume.specs.declared.locate.Layout.{Layout}
use Rattle.volume.specs.Sat.{free}
use Rattle.records.specs.Code.Spots.{counted_of}
use Rattle.ownership.specs.Blocks.{stream_length}
use Rattle.files.specs.Code.Opens.{stored_at, stream_at}
use Rattle.files.specs.Files.{sound, tail_sound, records_sound, count_is, records_in, no_count}
use Rattle.files.specs.declared.check.Checked.{Checked}

-- the records of a stream, if z says that its tail is zero
unfoldable pub content_of : Bool → ℕ → List ℕ → Option ℕ
content_of z l s = if z then counted_of l s else None

-- .. of the stream whose access block is sector s
unfoldable pub stream_count : List ℕ → ℕ → ℕ → Option ℕ
stream_count img s l = content_of (zeros (drop (stream_length (sector s img)) (stored_at img s))) l (stream_at img s)

-- what points 3 and 4 of soundness say of one entry's file; and what they said before there were record counts
unfoldable pub file_sound : List ℕ → List ℕ → Bool
file_sound img e = tail_sound img e and records_sound img e and count_is (records_in img) e

unfoldable pub file_before : List ℕ → List ℕ → Bool
file_before img e = tail_sound img e and records_sound img e and count_is no_count e

-- how many records an entry's file has, if it is sound by the rule of before; 0 if it has no stream
unfoldable pub records_before : List ℕ → List ℕ → ℕ
records_before img e = if unused e or contiguous e then 0 else records_in img e

unfoldable pub count_before : List ℕ → List ℕ → Option ℕ
count_before img e = if file_before img e then Some (records_before img e) else None

-- the layout of a sound volume
unfoldable pub sound_at : List ℕ → Option Layout
sound_at img = if sound img then Some (layout_of img) else None

-- RULES, Check: whether the volume is sound, and how many sectors are free; 0 if it is not sound
unfoldable pub checked_of : List ℕ → Checked
checked_of img = record { sound = sound img; free = if sound img then free img else 0 }
