-- Shapes that contracts of the front's inner functions cite: what is known of a request once some of its rules were tried.
use Rattle.std.specs.Prelude.{if◌then◌else◌, not, List, [], ◌∷◌, ◌≡◌, ℕ}
use Rattle.lists.specs.Parts.{put}
use Rattle.front.specs.declared.areas.Span.{Span}
use Rattle.work.specs.declared.Refusal.TheVariants.{NotSound, BadRequest, BadLength}
use Rattle.work.specs.Refusals.{◌if◌, ruled}
use Rattle.deskbytes.specs.DeskBytes.{desk_form}
use Rattle.desk.specs.Answers.{Answer}
use Rattle.std.specs.Prelude.{Err}
use Rattle.desk.specs.declared.Reply.{Reply}
use Rattle.desk.specs.Desk.{state}
use Rattle.desk.specs.Answers.{Outcome}
use Rattle.desk.specs.Calls.{rewind, step}
use Rattle.front.specs.Blocks.{lun_in, start_in, end_in, is_transfer, supported}
use Rattle.front.specs.Areas.{area, inside, part_named, task_after, shared_after}
use Rattle.front.specs.Front.{unpacked_desk, desk_after, transfer_asked}

-- a request without its block: its answer, and image, desk bytes and areas after it
pub record Passed : Type 0 where
  pub answer : Answer
  pub image : List ℕ
  pub desk : List ℕ
  pub task : List ℕ
  pub shared : List ℕ

abbrev pub passed : Answer → List ℕ → List ℕ → List ℕ → List ℕ → Passed
passed a img bs t s = record { answer = a; image = img; desk = bs; task = t; shared = s }

-- a read into a part of an area: its reply is the outcome's, and the area has the outcome's buffer in the place of the part
pub record FillsPart (r : Reply) (o : Outcome) (img : List ℕ) (from : ℕ) (b b' : List ℕ) : Type 0 where
  pub its_answer : r.answer ≡ o.answer
  pub its_desk : r.desk ≡ o.desk
  pub image_kept : img ≡ o.image
  pub its_area : b' ≡ put from o.buffer b

-- the same of the named one of two areas; the other one is as it was
pub record FillsArea (r : Reply) (o : Outcome) (img : List ℕ) (p : Span) (t s t' s' : List ℕ) : Type 0 where
  pub its_answer : r.answer ≡ o.answer
  pub its_desk : r.desk ≡ o.desk
  pub image_kept : img ≡ o.image
  pub its_task : t' ≡ area p.shared (put p.from o.buffer t) t
  pub its_shared : s' ≡ area p.shared s (put p.from o.buffer s)

-- a call whose buffer is the part at an address
unfoldable pub passed_by : Outcome → ℕ → List ℕ → List ℕ → List ℕ → Passed
passed_by o a bs t s = passed o.answer o.image (desk_after o.answer o.desk bs) (task_after a o.buffer t)
    (shared_after a o.buffer s)

-- of a transfer: the area's rule, then the call
unfoldable pub transfer_left : ℕ → List ℕ → List ℕ → List ℕ → List ℕ → List ℕ → Passed
transfer_left caller b img bs t s =
    ruled (BadLength if not (inside (start_in b) (end_in b) t s) ∷ []) (λ why. passed (Err why) img bs t s)
    (passed_by (step (transfer_asked caller b (part_named (start_in b) (end_in b) t s)) (state img (unpacked_desk bs))) (start_in b) bs t s)

unfoldable pub rewind_left : ℕ → List ℕ → List ℕ → List ℕ → List ℕ → List ℕ → Passed
rewind_left caller b img bs t s =
    passed_by (step (rewind caller (lun_in b)) (state img (unpacked_desk bs))) (start_in b) bs t s

-- of a block of 28 bytes: all rules but the first
unfoldable pub request_left : ℕ → List ℕ → List ℕ → List ℕ → List ℕ → List ℕ → Passed
request_left caller b img bs t s =
    ruled (NotSound if not (desk_form bs) ∷ BadRequest if not (supported b) ∷ []) (λ why. passed (Err why) img bs t s)
    (if is_transfer b then transfer_left caller b img bs t s else rewind_left caller b img bs t s)

unfoldable pub passed_open : Unit {0}
unfolding passed_by transfer_left rewind_left request_left
passed_open = tt
