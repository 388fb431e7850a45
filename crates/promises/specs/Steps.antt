-- RULES, Worked example: its steps, one computed list with one statement.
use Rattle.std.specs.Prelude.{List, ◌∷◌, [], ◌++◌, map, true, false, ◌≡◌, refl, ℕ, replicate, take, drop, get_or}
use Rattle.lists.specs.Lists.{same, flat, lists_open}
use Rattle.lists.specs.Parts.{part, parts_open}
use Rattle.text.specs.Packing.{packing_open}
use Rattle.volume.specs.Volume.{sat, trailer, volume_open}
use Rattle.volume.specs.Sat.{one, free, sat_open}
use Rattle.volume.specs.Directory.{entry_at, start, with_count, put_entry, directory_open}
use Rattle.volume.specs.Names.{names_open}
use Rattle.volume.specs.Formatted.{formatted_open}
use Rattle.records.specs.Records.{records_open}
use Rattle.records.specs.Streams.{streams_open}
use Rattle.ownership.specs.Blocks.{block, stream_length, pairs, blocks_open}
use Rattle.ownership.specs.Owners.{logical, owners_open}
use Rattle.files.specs.Files.{stream, files_open}
use Rattle.files.specs.Rights.{rights_open}
use Rattle.files.specs.Changes.{changes_open}
use Rattle.luns.specs.declared.Mode.TheVariants.{Pr, Er, Ew}
use Rattle.luns.specs.Modes.{compatible, modes_open}
use Rattle.luns.specs.Luns.{luns_open}
use Rattle.work.specs.Refusals.{refusals_open}
use Rattle.work.specs.Volumes.{volumes_open}
use Rattle.work.specs.Transfers.{transfers_open}
use Rattle.moves.specs.Moves.{moves_open}
use Rattle.compaction.specs.Compaction.{compaction_open}
use Rattle.desk.specs.Calls.{Call, format, bring_up, compact, allocate, assign, rewind, delete, read, write, update, calls_open}
use Rattle.desk.specs.Answers.{Outcome, status, moved, answers_open}
use Rattle.desk.specs.Desk.{state, State, empty_desk, desk_open}
use Rattle.desk.specs.Answers.{Answer}
use Rattle.std.specs.Prelude.{Ok, Err}
use Rattle.desk.specs.declared.Report.TheVariants.{Moved, Checked, Compacted}
use Rattle.front.specs.Front.{ending_number}
use Rattle.promises.specs.Runs.{trace, next}

-- a step: a call, and what is looked at in the image after it
pub record Step : Type 0 where
  pub call : Call
  pub look : List ℕ → List ℕ

abbrev pub calls : List Step → List Call
calls = map (λ t. t.call)

-- of a compaction the sectors moved, and why it ended by its number
unfoldable pub tally : Answer → List ℕ
tally (Ok (Moved n)) = []
tally (Ok (Checked s f)) = []
tally (Ok (Compacted n why)) = n ∷ ending_number why ∷ []
tally (Err why) = []

-- of each call its status, its length, its tally, and what is looked at
unfoldable pub shown : List Step → List Outcome → List (List ℕ)
shown [] os = []
shown (t ∷ ts) [] = []
shown (t ∷ ts) (o ∷ os) = (status o.answer ∷ moved o.answer ∷ (tally o.answer ++ t.look o.image)) ∷ shown ts os

unfoldable pub followed : List Step → State → List (List ℕ)
followed ts s = shown ts (trace (calls ts) s)

-- a user below 256, no catalog, a filename of one letter, extension A; the same of user 5
unfoldable pub desc_of : ℕ → ℕ → List ℕ
desc_of user c = 0 ∷ user ∷ (replicate 8 32 ++ (c ∷ replicate 7 32 ++ (65 ∷ 32 ∷ [])))

unfoldable pub desc : ℕ → List ℕ
desc = desc_of 5

-- the SAT's bytes 0 and 1, and whether all others are FF
pub sat2 : List ℕ → List ℕ
sat2 img = take 2 (sat img) ++ (one (same (drop 2 (sat img)) (replicate 254 0xFF)) ∷ [])

-- slot k's bytes 28-31, a sequential file's record count
unfoldable pub count_bytes : ℕ → List ℕ → List ℕ
count_bytes k img = part 28 4 (entry_at img k)

-- slot k's bytes 22-23; its first sector or access block; E; the segments; the physical sector of logical sector 1
pub code_bytes : ℕ → List ℕ → List ℕ
code_bytes k img = part 22 2 (entry_at img k)

unfoldable pub at : ℕ → List ℕ → ℕ
at k img = start (entry_at img k)

unfoldable pub bytes_in : ℕ → List ℕ → ℕ
bytes_in k img = stream_length (block img (entry_at img k))

unfoldable pub segments : ℕ → List ℕ → List ℕ
segments k img = flat (λ p. p) (pairs (block img (entry_at img k)))

pub second : ℕ → List ℕ → ℕ
second k img = get_or (logical img (entry_at img k)) 1 0

-- what stands in file Y's stream after step 6's 258 bytes
pub added : List ℕ → List ℕ
added img = drop 258 (stream img (entry_at img 1))

-- 4,096 bytes of anything, and an empty desk
unfoldable pub blank : State
blank = state (replicate 4096 7) empty_desk

-- the steps by their numbers; file X is in slot 0, file Y in slot 1
unfoldable pub story : List Step
story =
    -- 1
    record {
      call = format (0x56 ∷ 0x4F ∷ 0x4C ∷ 0x31 ∷ []) 1;
      look = λ img. take 8 (trailer img) ++ (sat2 img ++ (free img ∷ []));
    }
    -- 14, of a volume with no records
    ∷ record { call = bring_up; look = λ img. free img ∷ [] }
    -- 2, 3
    ∷ record { call = allocate 5 (desc 88) 0 3 0 0; look = λ img. at 0 img ∷ sat2 img }
    ∷ record {
      call = allocate 5 (desc 89) 1 0 0 0;
      look = λ img. at 1 img ∷ bytes_in 1 img ∷ (segments 1 img ++ (sat2 img ++ count_bytes 1 img));
    }
    -- 4
    ∷ record { call = assign 5 0 (desc 89) 4 false 0; look = λ img. [] }
    ∷ record {
      call = write 5 0 0 0 false (0x41 ∷ 0x42 ∷ 0x43 ∷ []);
      look = λ img. stream img (entry_at img 1) ++ (bytes_in 1 img ∷ (segments 1 img ++ (sat2 img ++ count_bytes 1 img)));
    }
    -- 5, 6
    ∷ record { call = delete 5 (desc 88); look = sat2 }
    ∷ record {
      call = write 5 0 0 0 false (replicate 250 1);
      look = λ img. bytes_in 1 img ∷ (segments 1 img ++ (sat2 img ++ (second 1 img ∷ free img ∷ count_bytes 1 img)));
    }
    -- 7 and 8 are asked of the volume after step 6: the refused ones, which leave it, come first
    ∷ record { call = allocate 5 (desc 88) 0 8 0 0; look = λ img. free img ∷ [] }
    ∷ record { call = write 5 0 3 3 false (0x41 ∷ []); look = λ img. [] }
    ∷ record { call = write 5 0 3 1 false (0x41 ∷ []); look = λ img. [] }
    ∷ record { call = update 5 0 3 0 false (replicate 4 0x41); look = λ img. [] }
    ∷ record { call = allocate 5 (desc 88) 0 7 0 0; look = λ img. at 0 img ∷ [] }
    -- 11
    ∷ record { call = write 5 0 3 2 true (replicate 129 0x20); look = λ img. bytes_in 1 img ∷ free img ∷ added img }
    ∷ record { call = read 5 0 1 0 true (replicate 128 0xEE); look = λ img. [] }
    ∷ record { call = update 5 0 1 0 true (replicate 128 0x20); look = added }
    ∷ record { call = read 5 0 1 0 true (replicate 128 0xEE); look = λ img. [] }
    ∷ record { call = update 5 0 1 0 true (replicate 2 0x20); look = λ img. [] }
    -- 13: file Z goes to slot 2; users 6, 0 and 5 ask for it
    ∷ record { call = allocate 0 (desc_of 0 90) 1 0 0 7; look = λ img. [] }
    ∷ record { call = allocate 5 (desc 90) 1 0 0 7; look = code_bytes 2 }
    ∷ record { call = assign 6 1 (desc 90) 0 false 0; look = λ img. [] }
    ∷ record { call = assign 6 1 (desc 90) 4 false 8; look = λ img. [] }
    ∷ record { call = assign 6 1 (desc 90) 4 false 7; look = λ img. [] }
    ∷ record { call = assign 6 1 (desc 90) 2 false 0; look = λ img. [] }
    ∷ record { call = assign 6 1 (desc 90) 0 false 7; look = λ img. [] }
    ∷ record { call = assign 0 2 (desc 90) 0 false 0; look = λ img. [] }
    ∷ record { call = assign 5 3 (desc 90) 4 false 0; look = λ img. [] }
    -- 14, of a volume with records
    ∷ record { call = bring_up; look = count_bytes 1 }
    ∷ []

-- 14: the volume as it would be from before there were counts, with 0 for file Y's: calls refuse it, and bring-up makes it what it was
as_before : State → State
as_before s = state (put_entry s.image 1 (with_count 0 (entry_at s.image 1)) s.image) s.desk

renewal : State → List Step
renewal s =
    record { call = rewind 5 0; look = count_bytes 1 }
    ∷ record { call = bring_up; look = λ img. one (same img s.image) ∷ count_bytes 1 img }
    ∷ record { call = bring_up; look = λ img. one (same img s.image) ∷ [] }
    ∷ record { call = rewind 5 0; look = λ img. [] }
    ∷ []

renewed : State → List (List ℕ)
renewed s = followed (renewal s) (as_before s)

-- what the last call left
ending : List Outcome → State
ending [] = blank
ending (o ∷ []) = state o.image o.desk
ending (o ∷ p ∷ os) = ending (p ∷ os)

-- 15, asked of the volume after step 6, the story's eighth call: the volume is closed up, and the 8 sectors that were refused are there
closing_up : List Step
closing_up =
    record { call = compact 0; look = λ img. segments 1 img ++ sat2 img }
    ∷ record { call = compact 1; look = λ img. segments 1 img ++ (sat2 img ++ (second 1 img ∷ free img ∷ [])) }
    ∷ record { call = compact 2048; look = λ img. [] }
    ∷ record { call = compact 2049; look = λ img. [] }
    ∷ record { call = allocate 5 (desc 88) 0 8 0 0; look = λ img. at 0 img ∷ [] }
    ∷ []

closed_after : List Outcome → List (List ℕ)
closed_after os = followed closing_up (ending (take 8 os))

told : List Outcome → List (List ℕ)
told os = shown story os ++ (renewed (ending os) ++ closed_after os)

-- 9 asks the modes alone
pub steps : List (List ℕ)
steps = told (trace (calls story) blank) ++ ((one (compatible Pr Ew) ∷ []) ∷ (one (compatible Pr Er) ∷ []) ∷ [])

pub settled : List (List ℕ)
settled =
    -- 1: the trailer, the SAT, 12 free
    (0 ∷ 0 ∷ 0x00 ∷ 0x10 ∷ 0x00 ∷ 0x0E ∷ 0x00 ∷ 0x0D ∷ 0x00 ∷ 0x01 ∷ 0xE0 ∷ 0x01 ∷ 1 ∷ 12 ∷ [])
    -- 14: it stays as it is
    ∷ (0 ∷ 0 ∷ 12 ∷ [])
    -- 2: start 3
    ∷ (0 ∷ 0 ∷ 3 ∷ 0xFC ∷ 0x01 ∷ 1 ∷ [])
    -- 3: FAB 6, no data; the count is 0
    ∷ (0 ∷ 0 ∷ 6 ∷ 0 ∷ 0xFE ∷ 0x01 ∷ 1 ∷ 0 ∷ 0 ∷ 0 ∷ 0 ∷ [])
    ∷ (0 ∷ 0 ∷ [])
    -- 4: the stream, E = 6, segment (7,1); the count is 1
    ∷ (0 ∷ 3 ∷ 0x00 ∷ 0x03 ∷ 0x41 ∷ 0x42 ∷ 0x43 ∷ 0x00 ∷ 6 ∷ 0 ∷ 7 ∷ 0 ∷ 1 ∷ 0xFF ∷ 0x01 ∷ 1 ∷ 0 ∷ 0 ∷ 0 ∷ 1 ∷ [])
    -- 5
    ∷ (0 ∷ 0 ∷ 0xE3 ∷ 0x01 ∷ 1 ∷ [])
    -- 6: E = 258, segments (7,1),(3,1), logical sector 1 is physical 3, 9 free; "the long word is 2"
    ∷ (0 ∷ 250 ∷ 258 ∷ 0 ∷ 7 ∷ 0 ∷ 1 ∷ 0 ∷ 3 ∷ 0 ∷ 1 ∷ 0xF3 ∷ 0x01 ∷ 1 ∷ 3 ∷ 9 ∷ 0 ∷ 0 ∷ 0 ∷ 2 ∷ [])
    -- 7: 8 sectors are refused, though 9 are free
    ∷ (0x63 ∷ 0 ∷ 9 ∷ [])
    -- 8: write record 3 with two there; write record 1; update record 0 by 4 bytes
    ∷ (0xC2 ∷ 0 ∷ [])
    ∷ (0x62 ∷ 0 ∷ [])
    ∷ (0x61 ∷ 0 ∷ [])
    -- 7: 7 sectors start at 8
    ∷ (0 ∷ 0 ∷ 8 ∷ [])
    -- 11: 129 spaces are stored as FF 82, with no new sector; their text is longer than 128 bytes; 128 are stored as FF 20, as long;
    -- 2 are stored as 82
    ∷ (0 ∷ 129 ∷ 262 ∷ 2 ∷ 0x00 ∷ 0x02 ∷ 0xFF ∷ 0x82 ∷ [])
    ∷ (0x84 ∷ 0 ∷ [])
    ∷ (0 ∷ 128 ∷ 0x00 ∷ 0x02 ∷ 0xFF ∷ 0x20 ∷ [])
    ∷ (0 ∷ 128 ∷ [])
    ∷ (0x61 ∷ 0 ∷ [])
    -- 13: a file of user 0 has no code; bytes 22-23; PR with no code; PRPW with a wrong code, and with the right one; PW needs none; PR
    -- with the right code; user 0 and the owner need none
    ∷ (0x60 ∷ 0 ∷ [])
    ∷ (0 ∷ 0 ∷ 0x00 ∷ 0x07 ∷ [])
    ∷ (0x07 ∷ 0 ∷ [])
    ∷ (0x07 ∷ 0 ∷ [])
    ∷ (0x0B ∷ 0 ∷ [])
    ∷ (0x0B ∷ 0 ∷ [])
    ∷ (0 ∷ 0 ∷ [])
    ∷ (0 ∷ 0 ∷ [])
    ∷ (0 ∷ 0 ∷ [])
    -- 14: the volume has its counts, and there are three records
    ∷ (0x6F ∷ 0 ∷ 0 ∷ 0 ∷ 0 ∷ 3 ∷ [])
    -- 14, of the volume as before: rewind is refused; the counts are written, and that is all; it is done once; rewind is accepted
    ∷ (0x6F ∷ 0 ∷ 0 ∷ 0 ∷ 0 ∷ 0 ∷ [])
    ∷ (0 ∷ 0 ∷ 1 ∷ 0 ∷ 0 ∷ 0 ∷ 3 ∷ [])
    ∷ (0x6F ∷ 0 ∷ 1 ∷ [])
    ∷ (0 ∷ 0 ∷ [])
    -- 15: with quota 0 nothing is moved, and the quota is used; with quota 1 sector 7 goes to sector 4, and the volume is settled, though
    -- the quota is used too: segments (4,1),(3,1), 9 free as before; then nothing is left to move; 2,049 is out of range; 8 sectors start
    -- at 7
    ∷ (0 ∷ 0 ∷ 0 ∷ 2 ∷ 0 ∷ 7 ∷ 0 ∷ 1 ∷ 0 ∷ 3 ∷ 0 ∷ 1 ∷ 0xF3 ∷ 0x01 ∷ 1 ∷ [])
    ∷ (0 ∷ 0 ∷ 1 ∷ 1 ∷ 0 ∷ 4 ∷ 0 ∷ 1 ∷ 0 ∷ 3 ∷ 0 ∷ 1 ∷ 0xFA ∷ 0x01 ∷ 1 ∷ 3 ∷ 9 ∷ [])
    ∷ (0 ∷ 0 ∷ 0 ∷ 1 ∷ [])
    ∷ (0x60 ∷ 0 ∷ [])
    ∷ (0 ∷ 0 ∷ 7 ∷ [])
    -- 9: PR and EW are compatible, PR and ER are not
    ∷ (1 ∷ [])
    ∷ (0 ∷ [])
    ∷ []

abbrev pub SmallVolume : Type 0
SmallVolume = steps ≡ settled

-- for a proof that computes: opens every definition of the service
unfoldable pub service_open : Unit {0}
unfolding lists_open parts_open packing_open names_open volume_open directory_open blocks_open owners_open sat_open formatted_open
    rights_open records_open files_open streams_open changes_open moves_open compaction_open
    modes_open luns_open refusals_open volumes_open transfers_open
    desk_open answers_open calls_open
service_open = tt

pub small_volume : SmallVolume
unfolding steps settled story blank followed shown trace next desc_of desc sat2 count_bytes code_bytes at bytes_in segments second added
    as_before renewal renewed ending closing_up closed_after tally told service_open
small_volume = refl
