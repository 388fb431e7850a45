-- The front: what each function that C calls leaves, in all cases. Defines RULES, The front.
use Rattle.std.specs.Prelude.{if◌then◌else◌, not, List, [], ◌∷◌, ℕ, ◌+◌, eqb, length}
use Rattle.lists.specs.Lists.{◌and◌}
use Rattle.lists.specs.Parts.{bytes2}
use Rattle.compaction.specs.declared.Ending.{Ending}
use Rattle.compaction.specs.declared.Ending.TheVariants.{Settled, QuotaUsed, SegmentNeeded}
use Rattle.work.specs.declared.Refusal.TheVariants.{NotSound, BadRequest, BadLength}
use Rattle.work.specs.Refusals.{Rule, ◌if◌, ruled}
use Rattle.deskbytes.specs.DeskBytes.{desk_size, desk_form, packed_luns, unpacked_luns}
use Rattle.desk.specs.Answers.{Answer}
use Rattle.std.specs.Prelude.{Ok, Err}
use Rattle.desk.specs.declared.Report.TheVariants.{Moved, Checked, Compacted}
use Rattle.desk.specs.declared.Desk.{Desk}
use Rattle.desk.specs.Desk.{state, empty_desk}
use Rattle.desk.specs.Answers.{Outcome, status, accepts}
use Rattle.desk.specs.Calls.{Call, format, check, bring_up, compact, rewind, read, write, update, step}
use Rattle.front.specs.Blocks.{block_size, function_of, options_of, lun_in, number_in, start_in, end_in, selector_in, formatted_in, is_transfer}
use Rattle.front.specs.Blocks.{supported, block_after}
use Rattle.front.specs.Areas.{inside, part_named, task_after, shared_after}

-- RULES, Desk bytes: the packed form of a desk, and the desk that bytes of the form stand for
unfoldable pub packed_desk : Desk → List ℕ
packed_desk d = packed_luns d.luns

unfoldable pub unpacked_desk : List ℕ → Desk
unpacked_desk bs = record { luns = unpacked_luns bs }

-- RULES, The front: an accepted call writes exactly the packed desk after it; a refusal leaves the bytes
unfoldable pub desk_after : Answer → Desk → List ℕ → List ℕ
desk_after a d bs = if accepts a then packed_desk d else bs

-- A call over image and desk bytes: the number that it returns, and both after it
pub record Served : Type 0 where
  pub returned : ℕ
  pub image : List ℕ
  pub desk : List ℕ

abbrev pub served : ℕ → List ℕ → List ℕ → Served
served n img bs = record { returned = n; image = img; desk = bs }

abbrev pub served_by : Outcome → List ℕ → Served
served_by o bs = served (status o.answer) o.image (desk_after o.answer o.desk bs)

-- RULES, The front: bad desk bytes are $6F; then the call's own order
unfoldable pub serve : Call → List ℕ → List ℕ → Served
serve c img bs =
    ruled (NotSound if not (desk_form bs) ∷ []) (λ why. served (status (Err why)) img bs)
    (served_by (step c (state img (unpacked_desk bs))) bs)

-- RULES, The front: format takes any 192 desk bytes; another length is $6F
unfoldable pub serve_format : List ℕ → ℕ → List ℕ → List ℕ → Served
serve_format id n img bs =
    ruled (NotSound if not (eqb (length bs) desk_size) ∷ []) (λ why. served (status (Err why)) img bs)
    (served_by (step (format id n) (state img empty_desk)) bs)

-- RULES, The front: check looks at no desk. Its number is the free sectors, and $10000 more if the volume is sound
abbrev pub sound_bit : ℕ
sound_bit = 0x10000

abbrev pub verdict : Answer → ℕ
verdict (Ok (Moved n)) = 0
verdict (Ok (Checked s f)) = (if s then sound_bit else 0) + f
verdict (Ok (Compacted n why)) = 0
verdict (Err why) = 0

unfoldable pub serve_check : List ℕ → ℕ
serve_check img = verdict (step check (state img empty_desk)).answer

-- RULES, The front: bring-up looks at no desk bytes, and leaves them. What it returns, and the image after it
unfoldable pub serve_bring_up : List ℕ → List ℕ → Served
serve_bring_up img bs = served (status (step bring_up (state img empty_desk)).answer) (step bring_up (state img empty_desk)).image bs

-- RULES, The front: compact is lent four bytes more for its report. If it is carried out they get why it ended, zero, and how many sectors
-- were moved; a refusal leaves them, and a report of another length is never written
abbrev pub report_size : ℕ
report_size = 4

abbrev pub ending_number : Ending → ℕ
ending_number Settled = 1
ending_number QuotaUsed = 2
ending_number SegmentNeeded = 3

abbrev pub report_bytes : ℕ → Ending → List ℕ
report_bytes n why = ending_number why ∷ 0 ∷ bytes2 n

abbrev pub reported : Answer → List ℕ → List ℕ
reported (Ok (Moved n)) rep = rep
reported (Ok (Checked s f)) rep = rep
reported (Ok (Compacted n why)) rep = if eqb (length rep) report_size then report_bytes n why else rep
reported (Err why) rep = rep

unfoldable pub report_after : ℕ → List ℕ → List ℕ → List ℕ → List ℕ
report_after n img bs rep =
    ruled (NotSound if not (desk_form bs) ∷ []) (λ why. rep) (reported (step (compact n) (state img (unpacked_desk bs))).answer rep)

-- What a request block comes with: the block, the image, the desk bytes, the task's own area and the shared segment
pub record Lent : Type 0 where
  pub block : List ℕ
  pub image : List ℕ
  pub desk : List ℕ
  pub task : List ℕ
  pub shared : List ℕ

abbrev pub lent : List ℕ → List ℕ → List ℕ → List ℕ → List ℕ → Lent
lent b img bs t s = record { block = b; image = img; desk = bs; task = t; shared = s }

-- .. and what it leaves: the number that is returned, and all five after it
pub record Ended : Type 0 where
  pub returned : ℕ
  pub left : Lent

abbrev pub ended : ℕ → Lent → Ended
ended n l = record { returned = n; left = l }

-- RULES, The front: its own order: $84 for a block of another length, $6F for bad desk bytes, $82 for an unsupported code, $84 for an area
-- (transfers only)
unfoldable pub front_rules : Lent → List Rule
front_rules l =
    BadLength if not (eqb (length l.block) block_size)
    ∷ NotSound if not (desk_form l.desk)
    ∷ BadRequest if not (supported l.block)
    ∷ BadLength if (is_transfer l.block and not (inside (start_in l.block) (end_in l.block) l.task l.shared))
    ∷ []

-- RULES, Codes: the call that a supported block asks for
unfoldable pub transfer_asked : ℕ → List ℕ → List ℕ → Call
transfer_asked caller b bs =
    if eqb (function_of b) 0x01 then read caller (lun_in b) (selector_in (options_of b)) (number_in b) (formatted_in (options_of b)) bs
    else if eqb (function_of b) 0x02 then write caller (lun_in b) (selector_in (options_of b)) (number_in b) (formatted_in (options_of b)) bs
    else update caller (lun_in b) (selector_in (options_of b)) (number_in b) (formatted_in (options_of b)) bs

unfoldable pub asked : ℕ → Lent → Call
asked caller l =
    if is_transfer l.block
    then transfer_asked caller l.block (part_named (start_in l.block) (end_in l.block) l.task l.shared)
    else rewind caller (lun_in l.block)

-- what a refusal leaves, with its number and length 0 in the block; what a call leaves: the buffer goes back to where it was (a rewind
-- has none)
unfoldable pub turned_back : Answer → Lent → Ended
turned_back a l = ended (status a) (lent (block_after a l.block) l.image l.desk l.task l.shared)

unfoldable pub carried_out : Outcome → Lent → Ended
carried_out o l =
    ended (status o.answer)
    (lent (block_after o.answer l.block) o.image (desk_after o.answer o.desk l.desk)
    (task_after (start_in l.block) o.buffer l.task) (shared_after (start_in l.block) o.buffer l.shared))

-- The front: the first of its rules that applies, or the call
unfoldable pub front : ℕ → Lent → Ended
front caller l =
    ruled (front_rules l) (λ why. turned_back (Err why) l)
    (carried_out (step (asked caller l) (state l.image (unpacked_desk l.desk))) l)

unfoldable pub front_open : Unit {0}
unfolding packed_desk unpacked_desk desk_after serve serve_format serve_check serve_bring_up report_after front_rules transfer_asked asked
    turned_back carried_out front
front_open = tt
