-- Computed examples of this layer's definitions: an edit of a definition that breaks one is refused here.
use mathlib.Core.Path.{◌≡◌, refl}
use mathlib.Core.Bool.{true, false}
use mathlib.Core.List.{List, [], ◌∷◌, ◌++◌}
use Prim.Native.Nat.{ℕ}
use lib.ListN.{replicate}
use Rattle.lists.specs.Lists.{lists_open}
use Rattle.lists.specs.Parts.{parts_open}
use Rattle.volume.specs.Names.{names_open}
use Rattle.volume.specs.Volume.{volume_open}
use Rattle.volume.specs.Directory.{directory_open}
use Rattle.volume.specs.Sat.{sat_open}
use Rattle.volume.specs.Formatted.{formatted_open}
use Rattle.records.specs.Records.{records_open}
use Rattle.records.specs.Streams.{streams_open}
use Rattle.ownership.specs.Blocks.{blocks_open}
use Rattle.ownership.specs.Owners.{owners_open}
use Rattle.files.specs.Files.{files_open}
use Rattle.files.specs.Changes.{changes_open}
use Rattle.files.specs.Rights.{rights_open}
use Rattle.luns.specs.declared.Place.{Place}
use Rattle.luns.specs.declared.Place.TheVariants.{Fresh, At}
use Rattle.luns.specs.Modes.{modes_open}
use Rattle.luns.specs.Luns.{luns_open}
use Rattle.work.specs.Refusals.{refusals_open}
use Rattle.work.specs.Volumes.{volumes_open}
use Rattle.work.specs.Transfers.{transfers_open}
use Rattle.desk.specs.Desk.{state, lun_at, empty_desk, desk_open}
use Rattle.desk.specs.Answers.{Outcome, status, moved, answers_open}
use Rattle.desk.specs.Calls.{Call, format, allocate, assign, close, rewind, delete, read, write, update, step, calls_open}

desc : List ℕ
desc = 0 ∷ 5 ∷ (replicate 8 32 ++ (88 ∷ replicate 7 32 ++ (65 ∷ 32 ∷ [])))

at : Place → List ℕ
at Fresh = []
at (At i n) = i ∷ n ∷ []

-- each call on what the one before it left: status, length, LUN 0's place and the buffer
told : Outcome → List ℕ
told o = status o.answer ∷ moved o.answer ∷ (at (lun_at o.desk 0).place ++ o.buffer)

played : List Call → Outcome → List (List ℕ)
played [] o = told o ∷ []
played (c ∷ cs) o = told o ∷ played cs (step c (state o.image o.desk))

-- A refused read at the end leaves the place and the buffer; an update of another length is refused; user 6 may read with the code and
-- not write, and closes no LUN of user 5; a file that is held is not deleted
story : List (List ℕ)
story =
    played
    (allocate 5 desc 1 0 0 7
    ∷ assign 5 0 desc 4 true 0
    ∷ write 5 0 0 0 false (0x41 ∷ 0x42 ∷ 0x43 ∷ [])
    ∷ read 5 0 1 0 false (1 ∷ 2 ∷ 3 ∷ 4 ∷ [])
    ∷ read 5 0 0 0 false (1 ∷ 2 ∷ 3 ∷ 4 ∷ [])
    ∷ read 5 0 1 0 false (1 ∷ 2 ∷ [])
    ∷ update 5 0 1 0 false (1 ∷ 2 ∷ [])
    ∷ update 5 0 1 0 false (7 ∷ 8 ∷ 9 ∷ [])
    ∷ rewind 5 0
    ∷ read 5 0 0 0 false (1 ∷ 2 ∷ 3 ∷ [])
    ∷ assign 6 1 desc 2 false 0
    ∷ assign 6 1 desc 4 false 0
    ∷ assign 6 1 desc 4 false 7
    ∷ assign 6 1 desc 0 false 8
    ∷ assign 6 1 desc 0 false 7
    ∷ close 6 0
    ∷ delete 5 desc
    ∷ [])
    (step (format (86 ∷ 79 ∷ 76 ∷ 49 ∷ []) 1) (state (replicate 4096 7) empty_desk))

story_told : story ≡
    (0 ∷ 0 ∷ [])
    ∷ (0 ∷ 0 ∷ [])
    ∷ (0 ∷ 0 ∷ [])
    ∷ (0 ∷ 3 ∷ 0 ∷ 1 ∷ 0x41 ∷ 0x42 ∷ 0x43 ∷ [])
    ∷ (0 ∷ 3 ∷ 0 ∷ 1 ∷ 0x41 ∷ 0x42 ∷ 0x43 ∷ 4 ∷ [])
    ∷ (0xC2 ∷ 0 ∷ 0 ∷ 1 ∷ 1 ∷ 2 ∷ 3 ∷ 4 ∷ [])
    ∷ (0x84 ∷ 0 ∷ 0 ∷ 1 ∷ 1 ∷ 2 ∷ [])
    ∷ (0x61 ∷ 0 ∷ 0 ∷ 1 ∷ 1 ∷ 2 ∷ [])
    ∷ (0 ∷ 3 ∷ 0 ∷ 1 ∷ 7 ∷ 8 ∷ 9 ∷ [])
    ∷ (0 ∷ 0 ∷ [])
    ∷ (0 ∷ 3 ∷ 0 ∷ 1 ∷ 7 ∷ 8 ∷ 9 ∷ [])
    ∷ (0x0B ∷ 0 ∷ 0 ∷ 1 ∷ [])
    ∷ (0x07 ∷ 0 ∷ 0 ∷ 1 ∷ [])
    ∷ (0x0B ∷ 0 ∷ 0 ∷ 1 ∷ [])
    ∷ (0x07 ∷ 0 ∷ 0 ∷ 1 ∷ [])
    ∷ (0 ∷ 0 ∷ 0 ∷ 1 ∷ [])
    ∷ (0x03 ∷ 0 ∷ 0 ∷ 1 ∷ [])
    ∷ (0x0D ∷ 0 ∷ 0 ∷ 1 ∷ [])
    ∷ []
unfolding story played told at desc lists_open parts_open names_open volume_open directory_open sat_open formatted_open records_open streams_open
    blocks_open owners_open files_open changes_open rights_open modes_open luns_open refusals_open volumes_open transfers_open desk_open answers_open calls_open
story_told = refl
