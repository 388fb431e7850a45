-- RULES, Worked example: its steps through the front, one computed list with one statement.
use Rattle.std.specs.Prelude.{false, List, ◌∷◌, [], ◌++◌, ◌≡◌, refl, ℕ, replicate, take}
use Rattle.lists.specs.Parts.{bytes4}
use Rattle.deskbytes.specs.DeskBytes.{desk_bytes_open}
use Rattle.desk.specs.Calls.{allocate, assign}
use Rattle.front.specs.Areas.{areas_open}
use Rattle.front.specs.Blocks.{request_open}
use Rattle.front.specs.Front.{Served, Lent, lent, Ended, ended, front, front_open}
use Rattle.promises.specs.Fronts.{Request, Request-iocb, formats, brings_up, calls, leaves}
use Rattle.promises.specs.Steps.{desc_of, desc, service_open}

-- what a request makes of what the last one left; only a block has areas
over_bytes : Served → Ended
over_bytes v = ended v.returned (lent [] v.image v.desk [] [])

left_by : Request → Lent → Ended
left_by (Request-iocb caller b t s) l = front caller (lent b l.image l.desk t s)
left_by (formats id n) l = over_bytes (leaves (formats id n) l.image l.desk)
left_by brings_up l = over_bytes (leaves brings_up l.image l.desk)
left_by (calls c) l = over_bytes (leaves (calls c) l.image l.desk)

-- of each request what is returned, the block and the areas, and the twelve bytes of LUN 0
shown : Ended → List ℕ
shown e = e.returned ∷ (e.left.block ++ (e.left.task ++ (e.left.shared ++ take 12 e.left.desk)))

-- each is given what the last one left
followed : List Request → List (List ℕ) → Ended → List (List ℕ)
followed [] seen e = seen
followed (r ∷ rs) seen e = followed rs (seen ++ (shown (left_by r e.left) ∷ [])) (left_by r e.left)

-- a block: request and function, options, LUN 0, the record number, start and end address; the status, the length and what is not looked at
-- begin as EE
iocb : ℕ → ℕ → ℕ → ℕ → ℕ → ℕ → ℕ → List ℕ
iocb code f high low num start end =
    code ∷ f ∷ high ∷ low ∷ 0xEE ∷ 0 ∷ 0xEE ∷ 0xEE
    ∷ (bytes4 num ++ (bytes4 start ++ (bytes4 end ++ (0xEE ∷ 0xEE ∷ 0xEE ∷ 0xEE ∷ 0xEE ∷ 0xEE ∷ 0xEE ∷ 0xEE ∷ []))))

-- on 4,096 bytes of anything and 192 bytes that stand for no desk
pub requests : List Request
requests =
    formats (0x56 ∷ 0x4F ∷ 0x4C ∷ 0x31 ∷ []) 1
    -- no records yet
    ∷ brings_up
    ∷ calls (allocate 5 (desc 89) 1 0 0 9)
    ∷ calls (assign 5 0 (desc 89) 4 false 8)
    -- "ABC" is written from bytes 1 to 3 of the task's area, read as record 0 into the shared segment's first four bytes, and asked for
    -- again up to a fifth byte that is not there
    ∷ Request-iocb 5 (iocb 0 2 0x00 0x08 0 1 3) (0x40 ∷ 0x41 ∷ 0x42 ∷ 0x43 ∷ 0x44 ∷ []) []
    ∷ Request-iocb 5 (iocb 0 1 0x60 0x08 0 0x80000000 0x80000003) (0x40 ∷ []) (0xDD ∷ 0xDD ∷ 0xDD ∷ 0xDD ∷ [])
    ∷ Request-iocb 5 (iocb 0 1 0x60 0x08 0 0x80000000 0x80000004) (0x40 ∷ []) (0xDD ∷ 0xDD ∷ 0xDD ∷ 0xDD ∷ [])
    -- a rewind
    ∷ Request-iocb 5 (iocb 1 2 0x00 0x00 0 9 0) [] []
    -- the volume has its counts
    ∷ brings_up
    ∷ []

pub settled_requests : List (List ℕ)
settled_requests =
    (0x00 ∷ 0 ∷ 0 ∷ 0 ∷ 0 ∷ 0 ∷ 0 ∷ 0 ∷ 0 ∷ 0 ∷ 0 ∷ 0 ∷ 0 ∷ [])
    ∷ (0x00 ∷ 0 ∷ 0 ∷ 0 ∷ 0 ∷ 0 ∷ 0 ∷ 0 ∷ 0 ∷ 0 ∷ 0 ∷ 0 ∷ 0 ∷ [])
    ∷ (0x00 ∷ 0 ∷ 0 ∷ 0 ∷ 0 ∷ 0 ∷ 0 ∷ 0 ∷ 0 ∷ 0 ∷ 0 ∷ 0 ∷ 0 ∷ [])
    -- mode 4, user 5, slot 0, code 8, Fresh
    ∷ (0x00 ∷ 1 ∷ 4 ∷ 0 ∷ 5 ∷ 0 ∷ 0 ∷ 8 ∷ 0 ∷ 0 ∷ 0 ∷ 0 ∷ 0 ∷ [])
    -- done, length 3; the areas are as they were; At 0, one moved
    ∷ (0x00
    ∷ (0 ∷ 2 ∷ 0x00 ∷ 0x08 ∷ 0x00 ∷ 0 ∷ 0xEE ∷ 0xEE ∷ 0 ∷ 0 ∷ 0 ∷ 0 ∷ 0 ∷ 0 ∷ 0 ∷ 1 ∷ 0 ∷ 0 ∷ 0 ∷ 3 ∷ 0 ∷ 0 ∷ 0 ∷ 3 ∷ 0xEE ∷ 0xEE ∷ 0xEE
    ∷ 0xEE ∷ [])
    ++ (0x40 ∷ 0x41 ∷ 0x42 ∷ 0x43 ∷ 0x44 ∷ 1 ∷ 4 ∷ 0 ∷ 5 ∷ 0 ∷ 1 ∷ 8 ∷ 0 ∷ 0 ∷ 0 ∷ 0 ∷ 0 ∷ []))
    -- done, length 3; the fourth byte stays
    ∷ (0x00
    ∷ (0 ∷ 1 ∷ 0x60 ∷ 0x08 ∷ 0x00 ∷ 0 ∷ 0xEE ∷ 0xEE ∷ 0 ∷ 0 ∷ 0 ∷ 0 ∷ 0x80 ∷ 0 ∷ 0 ∷ 0 ∷ 0x80 ∷ 0 ∷ 0 ∷ 3 ∷ 0 ∷ 0 ∷ 0 ∷ 3 ∷ 0xEE ∷ 0xEE
    ∷ 0xEE ∷ 0xEE ∷ [])
    ++ (0x40 ∷ 0x41 ∷ 0x42 ∷ 0x43 ∷ 0xDD ∷ 1 ∷ 4 ∷ 0 ∷ 5 ∷ 0 ∷ 1 ∷ 8 ∷ 0 ∷ 0 ∷ 0 ∷ 0 ∷ 0 ∷ []))
    -- $84, length 0; nothing else changes
    ∷ (0x84
    ∷ (0 ∷ 1 ∷ 0x60 ∷ 0x08 ∷ 0x84 ∷ 0 ∷ 0xEE ∷ 0xEE ∷ 0 ∷ 0 ∷ 0 ∷ 0 ∷ 0x80 ∷ 0 ∷ 0 ∷ 0 ∷ 0x80 ∷ 0 ∷ 0 ∷ 4 ∷ 0 ∷ 0 ∷ 0 ∷ 0 ∷ 0xEE ∷ 0xEE
    ∷ 0xEE ∷ 0xEE ∷ [])
    ++ (0x40 ∷ 0xDD ∷ 0xDD ∷ 0xDD ∷ 0xDD ∷ 1 ∷ 4 ∷ 0 ∷ 5 ∷ 0 ∷ 1 ∷ 8 ∷ 0 ∷ 0 ∷ 0 ∷ 0 ∷ 0 ∷ []))
    -- done, length 0; Fresh
    ∷ (0x00
    ∷ (1 ∷ 2 ∷ 0x00 ∷ 0x00 ∷ 0x00 ∷ 0 ∷ 0xEE ∷ 0xEE ∷ 0 ∷ 0 ∷ 0 ∷ 0 ∷ 0 ∷ 0 ∷ 0 ∷ 9 ∷ 0 ∷ 0 ∷ 0 ∷ 0 ∷ 0 ∷ 0 ∷ 0 ∷ 0 ∷ 0xEE ∷ 0xEE ∷ 0xEE
    ∷ 0xEE ∷ [])
    ++ (1 ∷ 4 ∷ 0 ∷ 5 ∷ 0 ∷ 0 ∷ 8 ∷ 0 ∷ 0 ∷ 0 ∷ 0 ∷ 0 ∷ []))
    -- $6F; the desk bytes are not looked at
    ∷ (0x6F ∷ 1 ∷ 4 ∷ 0 ∷ 5 ∷ 0 ∷ 0 ∷ 8 ∷ 0 ∷ 0 ∷ 0 ∷ 0 ∷ 0 ∷ [])
    ∷ []

unfoldable pub begun : Ended
begun = ended 0 (lent [] (replicate 4096 7) (replicate 192 7) [] [])

pub answered : List (List ℕ)
answered = followed requests [] begun

abbrev pub FrontSteps : Type 0
FrontSteps = answered ≡ settled_requests

pub front_steps : FrontSteps
unfolding answered followed requests settled_requests begun shown left_by over_bytes iocb leaves desc_of desc request_open areas_open
    front_open desk_bytes_open service_open
front_steps = refl
