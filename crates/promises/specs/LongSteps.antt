-- RULES, Worked example, step 16: the longest record and one byte more, one computed list with one statement.
use Rattle.std.specs.Prelude.{List, ◌∷◌, [], ◌++◌, false, ◌≡◌, refl, ℕ, ◌+◌, replicate}
use Rattle.numbers.specs.Numbers.{record_limit}
use Rattle.volume.specs.Sat.{free}
use Rattle.desk.specs.Calls.{format, allocate, assign, write}
use Rattle.desk.specs.Desk.{state, State, empty_desk}
use Rattle.promises.specs.Runs.{trace, next}
use Rattle.promises.specs.Steps.{Step, tally, shown, followed, desc_of, desc, at, bytes_in, segments, count_bytes, service_open}

-- 24 sectors of anything, and an empty desk
larger : State
larger = state (replicate 6144 7) empty_desk

-- as a record length, and as data of file X, which is in slot 0
long_records : List Step
long_records =
    record { call = format (0x56 ∷ 0x4F ∷ 0x4C ∷ 0x31 ∷ []) 1; look = λ img. free img ∷ [] }
    ∷ record { call = allocate 5 (desc 88) 1 0 (1 + record_limit) 0; look = λ img. [] }
    ∷ record { call = allocate 5 (desc 88) 1 0 0 0; look = λ img. at 0 img ∷ free img ∷ [] }
    ∷ record { call = assign 5 0 (desc 88) 4 false 0; look = λ img. [] }
    ∷ record { call = write 5 0 0 0 false (replicate (1 + record_limit) 7); look = λ img. [] }
    ∷ record {
      call = write 5 0 0 0 false (replicate record_limit 7);
      look = λ img. bytes_in 0 img ∷ (segments 0 img ++ (free img ∷ count_bytes 0 img));
    }
    ∷ record { call = write 5 0 0 0 false (replicate record_limit 7); look = λ img. free img ∷ [] }
    ∷ []

pub long_steps : List (List ℕ)
long_steps = followed long_records larger

pub long_settled : List (List ℕ)
long_settled =
    -- 20 free
    (0 ∷ 0 ∷ 20 ∷ [])
    -- record length 4,097
    ∷ (0x60 ∷ 0 ∷ [])
    -- access block 3
    ∷ (0 ∷ 0 ∷ 3 ∷ 19 ∷ [])
    ∷ (0 ∷ 0 ∷ [])
    -- 4,097 bytes
    ∷ (0x84 ∷ 0 ∷ [])
    -- 4,096 bytes: E = 4,098, segment (4,17), 2 free, one record
    ∷ (0 ∷ 4096 ∷ 4098 ∷ 0 ∷ 4 ∷ 0 ∷ 17 ∷ 2 ∷ 0 ∷ 0 ∷ 0 ∷ 1 ∷ [])
    -- as many again: 16 sectors more
    ∷ (0x63 ∷ 0 ∷ 2 ∷ [])
    ∷ []

abbrev pub LongestRecord : Type 0
LongestRecord = long_steps ≡ long_settled

pub longest_record : LongestRecord
unfolding long_steps long_settled long_records larger followed shown trace next desc_of desc at bytes_in segments count_bytes tally service_open
longest_record = refl
