-- Answers: their numbers and lengths, and what a call leaves. Defines RULES, Answers; The calls (refused or carried out).
use Rattle.std.specs.Prelude.{Bool, true, false, List, ℕ, Result, Ok, Err}
use Rattle.work.specs.Refusals.{code, Rule, ruled}
use Rattle.work.specs.declared.Refusal.{Refusal}
use Rattle.desk.specs.declared.Report.{Report}
use Rattle.desk.specs.declared.Report.TheVariants.{Moved, Checked, Compacted}
use Rattle.desk.specs.declared.Desk.{Desk}
use Rattle.desk.specs.Desk.{State}

-- RULES, Answers: what a call answers, what was done or why it is refused
abbrev pub Answer : Type 0
Answer = Result Report Refusal

-- RULES, Answers: the data bytes that a transfer moved, or 0 for any other call
abbrev pub moved_by : Report → ℕ
moved_by (Moved n) = n
moved_by (Checked s f) = 0
moved_by (Compacted n why) = 0

-- RULES, Answers: done has status $00; a refusal has its number, and length 0
abbrev pub status : Answer → ℕ
status (Ok r) = 0x00
status (Err why) = code why

abbrev pub moved : Answer → ℕ
moved (Ok r) = moved_by r
moved (Err why) = 0

-- an answer that is no refusal
unfoldable pub accepts : Answer → Bool
accepts (Ok r) = true
accepts (Err why) = false

-- What a call leaves: its answer, and image, desk and buffer after it
pub record Outcome : Type 0 where
  pub answer : Answer
  pub image : List ℕ
  pub desk : Desk
  pub buffer : List ℕ

abbrev pub outcome : Answer → List ℕ → Desk → List ℕ → Outcome
outcome a img d buf = record { answer = a; image = img; desk = d; buffer = buf }

-- What a call that no rule refuses does
pub record Change : Type 0 where
  pub report : Report
  pub image : List ℕ
  pub desk : Desk
  pub buffer : List ℕ

-- RULES, The calls: the first refusal whose condition holds is answered, and image, desk and buffer keep every byte; if none holds, the
-- call is carried out
unfoldable pub judged : List Rule → State → List ℕ → Change → Outcome
judged rs s buf c =
    ruled rs (λ why. outcome (Err why) s.image s.desk buf) (outcome (Ok c.report) c.image c.desk c.buffer)

unfoldable pub answers_open : Unit {0}
unfolding accepts judged
answers_open = tt
