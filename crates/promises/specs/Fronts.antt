-- The front: the demands of calls that are made through it.
use Rattle.std.specs.Prelude.{true, false, not, List, [], ◌∷◌, ◌++◌, map, ◌≢◌, ◌⊎◌, ◌≡◌, ℕ, ◌+◌, ◌*◌, ◌/◌, ◌<◌, ◌≤◌, eqb, length}
use Rattle.lists.specs.Lists.{among}
use Rattle.lists.specs.Parts.{byte, long, part, over, bytes2}
use Rattle.volume.specs.Directory.{contiguous}
use Rattle.compaction.specs.declared.Ending.{Ending}
use Rattle.work.specs.declared.Refusal.TheVariants.{NotSound}
use Rattle.work.specs.Refusals.{◌if◌, ruled, code}
use Rattle.work.specs.Transfers.{stored_as, handed_as}
use Rattle.deskbytes.specs.DeskBytes.{desk_size, desk_form}
use Rattle.desk.specs.Desk.{State, state, empty_desk, file_of, aimed}
use Rattle.desk.specs.Answers.{Outcome, moved}
use Rattle.desk.specs.Calls.{Call, format, bring_up, compact, rules, sent, step}
use Rattle.std.specs.Prelude.{Ok}
use Rattle.desk.specs.declared.Report.TheVariants.{Compacted}
use Rattle.front.specs.Blocks.{block_size, function_of, options_of, lun_in, number_in, start_in, end_in, selector_in, formatted_in, is_transfer}
use Rattle.front.specs.Areas.{names_shared, offset, area, part_named}
use Rattle.front.specs.Front.{packed_desk, unpacked_desk, Served, served, serve, serve_format, serve_check, serve_bring_up, Lent, lent, Ended}
use Rattle.front.specs.Front.{ended, report_size, ending_number, report_after}
use Rattle.front.specs.Front.{front_rules, asked}
use Rattle.front.specs.Front.{front}
use Rattle.promises.specs.Answers.{status_table}
use Rattle.promises.specs.Contents.{slot_held}
use Rattle.promises.specs.DeskBytes.{PlainDesk}
use Rattle.promises.specs.Lasting.{Between}
use Rattle.promises.specs.Runs.{Visit, visit, through, run}
use Rattle.promises.specs.Sectors.{Bytes, Accepts, Good, InOrder}

-- what a request block finds: the image, and the desk that the bytes stand for
abbrev pub state_of : Lent → State
state_of l = state l.image (unpacked_desk l.desk)

-- A request of the gateway: a request block with its areas, format, bring-up, or another call over image and desk bytes; what it returns,
-- and image and desk bytes after it
pub data Request : Type 0 where
  Request-iocb : (caller : ℕ) (block task shared : List ℕ) → Request
  formats : (id : List ℕ) (dirs : ℕ) → Request
  brings_up : Request
  calls : (call : Call) → Request

unfoldable pub leaves : Request → List ℕ → List ℕ → Served
leaves (Request-iocb caller b t s) img bs =
    served (front caller (lent b img bs t s)).returned (front caller (lent b img bs t s)).left.image
    (front caller (lent b img bs t s)).left.desk
leaves (formats id n) img bs = serve_format id n img bs
leaves brings_up img bs = serve_bring_up img bs
leaves (calls c) img bs = serve c img bs

-- Demand 1: "every call ends with an answer from the status table"
abbrev pub FrontInTable : Type 0
FrontInTable = (r : Request) (img bs : List ℕ) → among (leaves r img bs).returned status_table ≡ true

-- "A refusal leaves them as they were": image and desk bytes
abbrev pub RequestRefusalKeeps : Type 0
RequestRefusalKeeps =
    (r : Request) (img bs : List ℕ) → (leaves r img bs).returned ≢ 0x00 → ((leaves r img bs).image ≡ img) × ((leaves r img bs).desk ≡ bs)

-- "a refusal keeps image, desk bytes and both areas"
pub record LentKept (l m : Lent) : Type 0 where
  pub image_kept : m.image ≡ l.image
  pub desk_kept : m.desk ≡ l.desk
  pub task_kept : m.task ≡ l.task
  pub shared_kept : m.shared ≡ l.shared

abbrev pub FrontRefusalKeeps : Type 0
FrontRefusalKeeps = (caller : ℕ) (l : Lent) → (front caller l).returned ≢ 0x00 → LentKept l (front caller l).left

-- "a block of another length than 28 is $84 and is not written"
abbrev pub ShortBlock : Type 0
ShortBlock = (caller : ℕ) (l : Lent) → length l.block ≢ block_size → front caller l ≡ ended 0x84 l

-- "Status goes to byte 4, length to $14-$17, a refusal its number and length 0; no other block byte changes, refused or not"
pub record AnsweredBlock (b : List ℕ) (e : Ended) : Type 0 where
  pub as_long : length e.left.block ≡ length b
  pub status_there : byte e.left.block 4 ≡ e.returned
  pub refused_length : e.returned ≢ 0x00 → long e.left.block 0x14 ≡ 0
  pub others_kept : (j : ℕ) → j ≢ 4 → (j < 0x14) ⊎ (0x18 ≤ j) → byte e.left.block j ≡ byte b j

abbrev pub BlockAnswered : Type 0
BlockAnswered = (caller : ℕ) (l : Lent) → length l.block ≡ block_size → AnsweredBlock l.block (front caller l)

-- "and no byte of either area outside the part" from address a to address e
pub record OutsideKept (a e : ℕ) (l m : Lent) : Type 0 where
  pub other_area : area (names_shared a) m.shared m.task ≡ area (names_shared a) l.shared l.task
  pub as_long : length (area (names_shared a) m.task m.shared) ≡ length (area (names_shared a) l.task l.shared)
  pub outside : (j : ℕ) → (j < offset a) ⊎ (offset e < j)
      → byte (area (names_shared a) m.task m.shared) j ≡ byte (area (names_shared a) l.task l.shared) j

abbrev pub OnlyThePart : Type 0
OnlyThePart = (caller : ℕ) (l : Lent) → OutsideKept (start_in l.block) (end_in l.block) l (front caller l).left

-- only a read writes into its part: after any other request both areas are as they were
abbrev pub OnlyReadsFill : Type 0
OnlyReadsFill =
    (caller : ℕ) (l : Lent) → function_of l.block ≢ 0x01
    → ((front caller l).left.task ≡ l.task) × ((front caller l).left.shared ≡ l.shared)

-- Demand 2: the front's order, "then the call's own order": what is returned is the number of the first rule that applies, or $00
abbrev pub FrontRefusedExactly : Type 0
FrontRefusedExactly =
    (caller : ℕ) (l : Lent) → (front caller l).returned ≡ ruled (front_rules l ++ rules (asked caller l) (state_of l)) code 0x00

-- what a request that is not refused leaves: the call was accepted, and image, desk, length and buffer are its own
pub record CarriedOut (c : Call) (l : Lent) (o : Outcome) (e : Ended) : Type 0 where
  pub accepted : Accepts c (state_of l)
  pub image_is : e.left.image ≡ o.image
  pub desk_is : e.left.desk ≡ packed_desk o.desk
  pub length_there : long e.left.block 0x14 ≡ moved o.answer
  pub part_is : is_transfer l.block ≡ true
      → part_named (start_in l.block) (end_in l.block) e.left.task e.left.shared ≡ o.buffer

abbrev pub AcceptedThrough : Type 0
AcceptedThrough =
    (caller : ℕ) (l : Lent) → (front caller l).returned ≡ 0x00
    → CarriedOut (asked caller l) l (step (asked caller l) (state_of l)) (front caller l)

-- a transfer of this function code; the bytes that it lends, its LUN's slot, the record or sector that it aims at, and its file's entry
pub record Asks (f : ℕ) (l : Lent) : Type 0 where
  pub is_transfer : is_transfer l.block ≡ true
  pub its_function : function_of l.block ≡ f

abbrev pub bytes_lent : Lent → List ℕ
bytes_lent l = part_named (start_in l.block) (end_in l.block) l.task l.shared

abbrev pub slot_asked : Lent → ℕ
slot_asked l = slot_held (state_of l) (lun_in l.block)

abbrev pub unit_asked : Lent → ℕ
unit_asked l = aimed (state_of l) (lun_in l.block) (selector_in (options_of l.block)) (number_in l.block)

abbrev pub file_asked : Lent → List ℕ
file_asked l = file_of (state_of l) (lun_in l.block)

-- what is stored in unit i of slot k, whose entry is e, is handed over by an accepted read through the front: the part begins with it, and
-- the block has its length
abbrev pub HandsBackThrough : Lent → List ℕ → ℕ → ℕ → List ℕ → Type 0
HandsBackThrough m e k i ss =
    (caller : ℕ) → Asks 0x01 m → (front caller m).returned ≡ 0x00 → slot_asked m ≡ k → unit_asked m ≡ i
    → (part_named (start_in m.block) (end_in m.block) (front caller m).left.task (front caller m).left.shared
    ≡ over (handed_as (formatted_in (options_of m.block)) e ss) (bytes_lent m))
    × (long (front caller m).left.block 0x14 ≡ length (handed_as (formatted_in (options_of m.block)) e ss))

-- "what was written through it is read through it", whatever calls come between, through the front or not, with whatever desks; and what an
-- update put in a record's place
abbrev pub WrittenThrough : Type 0
WrittenThrough =
    (caller : ℕ) (l : Lent) → Bytes l.image → Bytes l.task → Bytes l.shared → Asks 0x02 l → (front caller l).returned ≡ 0x00
    → contiguous (file_asked l) ≡ false → (vs : List Visit) (m : Lent)
    → Between (front caller l).left.image (slot_asked l) (unit_asked l) vs m.image
    → HandsBackThrough m (file_asked l) (slot_asked l) (unit_asked l)
    (stored_as (formatted_in (options_of l.block)) (file_asked l) (bytes_lent l))

-- .. and of sector j of a contiguous write: an accepted read through the front that covers it as its sector x has it there in its part
abbrev pub WrittenSectorThrough : Type 0
WrittenSectorThrough =
    (caller : ℕ) (l : Lent) → Bytes l.image → Bytes l.task → Bytes l.shared → Asks 0x02 l → (front caller l).returned ≡ 0x00
    → contiguous (file_asked l) ≡ true → (j : ℕ) → j < length (bytes_lent l) / 256 → (vs : List Visit) (m : Lent)
    → Between (front caller l).left.image (slot_asked l) (unit_asked l + j) vs m.image
    → (caller' : ℕ) → Asks 0x01 m → (front caller' m).returned ≡ 0x00 → slot_asked m ≡ slot_asked l
    → (x : ℕ) → unit_asked m + x ≡ unit_asked l + j → 256 * x < long (front caller' m).left.block 0x14
    → part (256 * x) 256 (part_named (start_in m.block) (end_in m.block) (front caller' m).left.task (front caller' m).left.shared)
    ≡ part (256 * j) 256 (bytes_lent l)

abbrev pub UpdatedThrough : Type 0
UpdatedThrough =
    (caller : ℕ) (l : Lent) → Bytes l.image → Bytes l.task → Bytes l.shared → Asks 0x08 l → (front caller l).returned ≡ 0x00
    → (vs : List Visit) (m : Lent) → Between (front caller l).left.image (slot_asked l) (unit_asked l) vs m.image
    → HandsBackThrough m (file_asked l) (slot_asked l) (unit_asked l)
    (stored_as (formatted_in (options_of l.block)) (file_asked l) (bytes_lent l))

-- what a request is to the volume: nothing if the front refuses it, else one visit, with the desk that the bytes stand for
unfoldable pub visit_by : Request → List ℕ → List ℕ → List Visit
visit_by (Request-iocb caller b t s) img bs =
    ruled (front_rules (lent b img bs t s)) (λ why. []) (visit (unpacked_desk bs) (asked caller (lent b img bs t s)) ∷ [])
visit_by (formats id n) img bs = ruled (NotSound if not (eqb (length bs) desk_size) ∷ []) (λ why. []) (visit empty_desk (format id n) ∷ [])
visit_by brings_up img bs = visit empty_desk bring_up ∷ []
visit_by (calls c) img bs = ruled (NotSound if not (desk_form bs) ∷ []) (λ why. []) (visit (unpacked_desk bs) c ∷ [])

-- requests, each with whatever desk bytes come with it, and the image that the last one left: they are visits
pub record Posted : Type 0 where
  pub desk : List ℕ
  pub request : Request

unfoldable pub through_all : List Posted → List ℕ → List ℕ
through_all [] img = img
through_all (q ∷ qs) img = through_all qs (leaves q.request img q.desk).image

unfoldable pub visits_by : List Posted → List ℕ → List Visit
visits_by [] img = []
visits_by (q ∷ qs) img = visit_by q.request img q.desk ++ visits_by qs (leaves q.request img q.desk).image

abbrev pub RequestsAreVisits : Type 0
RequestsAreVisits = (qs : List Posted) (img : List ℕ) → through_all qs img ≡ through (visits_by qs img) img

-- requests, each given the image and the desk bytes that the last one left: they are a run of calls, and the desk bytes are the packed form
-- of the run's desk
unfoldable pub image_after : List Request → List ℕ → List ℕ → List ℕ
image_after [] img bs = img
image_after (r ∷ rs) img bs = image_after rs (leaves r img bs).image (leaves r img bs).desk

unfoldable pub bytes_after : List Request → List ℕ → List ℕ → List ℕ
bytes_after [] img bs = bs
bytes_after (r ∷ rs) img bs = bytes_after rs (leaves r img bs).image (leaves r img bs).desk

abbrev pub calls_by : List Visit → List Call
calls_by = map (λ v. v.call)

unfoldable pub calls_made : List Request → List ℕ → List ℕ → List Call
calls_made [] img bs = []
calls_made (r ∷ rs) img bs = calls_by (visit_by r img bs) ++ calls_made rs (leaves r img bs).image (leaves r img bs).desk

pub record SameRun (rs : List Request) (img : List ℕ) (bs : List ℕ) (s : State) : Type 0 where
  pub images : image_after rs img bs ≡ s.image
  pub desks : bytes_after rs img bs ≡ packed_desk s.desk
  pub is_plain : PlainDesk s.desk

-- what requests send is bytes
abbrev pub BytesSent : Request → Type 0
BytesSent (Request-iocb caller b t s) = Bytes t × Bytes s
BytesSent (formats id n) = Bytes id
BytesSent brings_up = Unit {0}
BytesSent (calls c) = Bytes (sent c)

abbrev pub RequestBytes : List Request → Type 0
RequestBytes [] = Unit {0}
RequestBytes (r ∷ rs) = BytesSent r × RequestBytes rs

abbrev pub RequestsAreRuns : Type 0
RequestsAreRuns =
    (rs : List Request) (s : State) → PlainDesk s.desk → RequestBytes rs
    → SameRun rs s.image (packed_desk s.desk) (run (calls_made rs s.image (packed_desk s.desk)) s)

-- Demand 3: "From a formatted volume and any calls, each given the image and desk that the last one left", through the front
abbrev pub FrontStaysGood : Type 0
FrontStaysGood =
    (id : List ℕ) (n : ℕ) (img bs : List ℕ) → (serve_format id n img bs).returned ≡ 0x00 → (rs : List Request) → RequestBytes rs
    → Good (state (image_after (formats id n ∷ rs) img bs) (unpacked_desk (bytes_after (formats id n ∷ rs) img bs)))
    × InOrder (image_after (formats id n ∷ rs) img bs)

-- "C header: the call, with count and reason": what compact leaves of its report
pub record ReportTold (quota : ℕ) (img bs rep : List ℕ) : Type 0 where
  pub if_done : (n : ℕ) (why : Ending) → desk_form bs ≡ true
      → (step (compact quota) (state img (unpacked_desk bs))).answer ≡ Ok (Compacted n why) → length rep ≡ report_size
      → report_after quota img bs rep ≡ ending_number why ∷ 0 ∷ bytes2 n
  pub if_refused : (serve (compact quota) img bs).returned ≢ 0x00 → report_after quota img bs rep ≡ rep
  pub if_other_length : length rep ≢ report_size → report_after quota img bs rep ≡ rep

abbrev pub ReportsTold : Type 0
ReportsTold = (quota : ℕ) (img bs rep : List ℕ) → ReportTold quota img bs rep

-- At most one outcome satisfies what each function for C ensures
pub record OneEnding : Type 0 where
  pub of_blocks : (caller : ℕ) (l : Lent) (n n' : ℕ) (m m' : Lent) → ended n m ≡ front caller l → ended n' m' ≡ front caller l
      → (n ≡ n') × (m ≡ m')
  pub of_calls : (c : Call) (img bs : List ℕ) (n n' : ℕ) (a a' b b' : List ℕ) → served n a b ≡ serve c img bs
      → served n' a' b' ≡ serve c img bs → (n ≡ n') × (a ≡ a') × (b ≡ b')
  pub of_format : (id : List ℕ) (dirs : ℕ) (img bs : List ℕ) (n n' : ℕ) (a a' b b' : List ℕ) → served n a b ≡ serve_format id dirs img bs
      → served n' a' b' ≡ serve_format id dirs img bs → (n ≡ n') × (a ≡ a') × (b ≡ b')
  pub of_bring_up : (img : List ℕ) (n n' : ℕ) (a a' : List ℕ) → served n a [] ≡ serve_bring_up img [] → served n' a' [] ≡ serve_bring_up img []
      → (n ≡ n') × (a ≡ a')
  pub of_report : (quota : ℕ) (img bs rep a a' : List ℕ) → a ≡ report_after quota img bs rep → a' ≡ report_after quota img bs rep → a ≡ a'
  pub of_check : (img : List ℕ) (n n' : ℕ) → n ≡ serve_check img → n' ≡ serve_check img → n ≡ n'
