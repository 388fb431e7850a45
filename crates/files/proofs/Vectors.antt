-- Computed examples of this layer's definitions: an edit of a definition that breaks one is refused here.
use mathlib.Core.List.{List, [], ◌∷◌, ◌++◌}
use mathlib.Core.Path.{◌≡◌, refl}
use mathlib.Core.Bool.{Bool, true, false}
use Prim.Native.Nat.{ℕ, ◌+◌}
use lib.ListN.{replicate}
use Rattle.numbers.specs.Numbers.{record_limit}
use Rattle.lists.specs.Lists.{lists_open, flat}
use Rattle.lists.specs.Parts.{parts_open}
use Rattle.volume.specs.Directory.{entry_at, record_count, with_count, put_entry, directory_open}
use Rattle.volume.specs.Sat.{one, free, sat_open}
use Rattle.volume.specs.Formatted.{formatted, formatted_open}
use Rattle.volume.specs.Names.{names_open}
use Rattle.volume.specs.Volume.{volume_open}
use Rattle.records.specs.Records.{encoded, stream_of, records_open, records_of, whole_records}
use Rattle.records.specs.Streams.{streams_open}
use Rattle.ownership.specs.Blocks.{block, pairs, total, stream_length, blocks_open}
use Rattle.ownership.specs.Owners.{owners_open}
use Rattle.files.specs.Files.{stream, sound, sound_before, files_open}
use Rattle.files.specs.Changes.{allocated, deleted, appended, updated, brought_up, changes_open}

-- records of 3, 0 and 2 bytes: the odd one has a pad byte
three : List (List ℕ)
three = (0x41 ∷ 0x42 ∷ 0x43 ∷ []) ∷ [] ∷ (1 ∷ 2 ∷ []) ∷ []

three_stream : stream_of 0 three ≡ 0 ∷ 3 ∷ 0x41 ∷ 0x42 ∷ 0x43 ∷ 0 ∷ 0 ∷ 0 ∷ 0 ∷ 2 ∷ 1 ∷ 2 ∷ []
unfolding three lists_open parts_open records_open
three_stream = refl

three_back : records_of 0 (stream_of 0 three) ≡ three
unfolding three lists_open parts_open records_open
three_back = refl

-- a pad byte that is not zero, a record cut short, a count over the record limit and one at it, a fixed record cut short
judged_streams : List Bool
judged_streams =
    whole_records 0 (0 ∷ 1 ∷ 7 ∷ 7 ∷ []) ∷ whole_records 0 (0 ∷ 2 ∷ 7 ∷ [])
    ∷ whole_records 0 (encoded 0 (replicate (1 + record_limit) 7)) ∷ whole_records 0 (encoded 0 (replicate record_limit 7))
    ∷ whole_records 3 (1 ∷ 2 ∷ 3 ∷ 4 ∷ []) ∷ []

streams_judged : judged_streams ≡ false ∷ false ∷ false ∷ true ∷ false ∷ []
unfolding judged_streams lists_open parts_open records_open
streams_judged = refl

-- A variable file on the smallest volume: its access block takes sector 3. The first record takes one sector, a short second one
-- takes none, an update takes none, and deleting the file frees both; E is 6, 12, 12, the record count 1, 2, 2. With its count set to zero
-- the volume is sound by the rule of before alone, and is brought up to what it was
desc : List ℕ
desc = 0 ∷ 5 ∷ (replicate 8 32 ++ (88 ∷ replicate 7 32 ++ (65 ∷ 32 ∷ [])))

seen : List ℕ → List ℕ
seen img =
    one (sound img) ∷ one (sound_before img) ∷ record_count (entry_at img 0) ∷ free img ∷ total (block img (entry_at img 0)) ∷ stream_length (block img (entry_at img 0)) ∷
    (flat (λ p. p) (pairs (block img (entry_at img 0))) ++ stream img (entry_at img 0))

-- each change on what the one before it left
changed : List (List ℕ → List ℕ) → List ℕ → List (List ℕ)
changed [] img = (one (sound img) ∷ free img ∷ []) ∷ []
changed (c ∷ cs) img = seen img ∷ changed cs (c img)

appends : List (List ℕ)
appends =
    changed
    ((λ img. appended 0 (0x41 ∷ 0x42 ∷ 0x43 ∷ []) img)
    ∷ (λ img. appended 0 (7 ∷ 8 ∷ 9 ∷ []) img)
    ∷ (λ img. updated (entry_at img 0) 0 (1 ∷ 2 ∷ 3 ∷ []) img)
    ∷ (λ img. put_entry img 0 (with_count 0 (entry_at img 0)) img)
    ∷ (λ img. brought_up img)
    ∷ (λ img. deleted 0 img)
    ∷ [])
    (allocated 0 desc 1 0 0 7 3 (formatted (86 ∷ 79 ∷ 76 ∷ 49 ∷ []) 1 16))

appends_seen : appends ≡
    (1 ∷ 1 ∷ 0 ∷ 11 ∷ 0 ∷ 0 ∷ [])
    ∷ (1 ∷ 0 ∷ 1 ∷ 10 ∷ 1 ∷ 6 ∷ 0 ∷ 4 ∷ 0 ∷ 1 ∷ 0 ∷ 3 ∷ 0x41 ∷ 0x42 ∷ 0x43 ∷ 0 ∷ [])
    ∷ (1 ∷ 0 ∷ 2 ∷ 10 ∷ 1 ∷ 12 ∷ 0 ∷ 4 ∷ 0 ∷ 1 ∷ 0 ∷ 3 ∷ 0x41 ∷ 0x42 ∷ 0x43 ∷ 0 ∷ 0 ∷ 3 ∷ 7 ∷ 8 ∷ 9 ∷ 0 ∷ [])
    ∷ (1 ∷ 0 ∷ 2 ∷ 10 ∷ 1 ∷ 12 ∷ 0 ∷ 4 ∷ 0 ∷ 1 ∷ 0 ∷ 3 ∷ 1 ∷ 2 ∷ 3 ∷ 0 ∷ 0 ∷ 3 ∷ 7 ∷ 8 ∷ 9 ∷ 0 ∷ [])
    ∷ (0 ∷ 1 ∷ 0 ∷ 10 ∷ 1 ∷ 12 ∷ 0 ∷ 4 ∷ 0 ∷ 1 ∷ 0 ∷ 3 ∷ 1 ∷ 2 ∷ 3 ∷ 0 ∷ 0 ∷ 3 ∷ 7 ∷ 8 ∷ 9 ∷ 0 ∷ [])
    ∷ (1 ∷ 0 ∷ 2 ∷ 10 ∷ 1 ∷ 12 ∷ 0 ∷ 4 ∷ 0 ∷ 1 ∷ 0 ∷ 3 ∷ 1 ∷ 2 ∷ 3 ∷ 0 ∷ 0 ∷ 3 ∷ 7 ∷ 8 ∷ 9 ∷ 0 ∷ [])
    ∷ (1 ∷ 12 ∷ [])
    ∷ []
unfolding appends changed seen desc lists_open parts_open names_open volume_open directory_open blocks_open owners_open sat_open formatted_open records_open files_open streams_open
    changes_open
appends_seen = refl
