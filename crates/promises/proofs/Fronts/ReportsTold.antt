-- What compact leaves of its report, in each case.
use mathlib.Core.Bool.{Bool, true, false}
use mathlib.Core.List.{List, ◌∷◌}
use mathlib.Core.Logic.{◌≢◌}
use mathlib.Core.Path.{◌≡◌, refl}
use Prim.Native.Nat.{ℕ}
use lib.ListN.{length}
use borrow.Author.Tests.{eq-eqb, ne_eqb}
use Rattle.lists.specs.Parts.{bytes2}
use Rattle.compaction.specs.declared.Ending.{Ending}
use Rattle.work.specs.Refusals.{ruled}
use Rattle.deskbytes.specs.DeskBytes.{desk_form}
use Rattle.desk.specs.Answers.{Answer}
use Rattle.std.specs.Prelude.{Ok, Err}
use Rattle.desk.specs.declared.Report.TheVariants.{Moved, Checked, Compacted}
use Rattle.desk.specs.Desk.{state}
use Rattle.desk.specs.Calls.{compact, step}
use Rattle.front.specs.Front.{unpacked_desk, serve, report_size, ending_number, reported, report_after}
use Rattle.promises.specs.Fronts.{ReportsTold}
use Rattle.promises.proofs.Fronts.FrontAnswers.{Which, was_done, was_refused, which}

other_length : (a : Answer) (rep : List ℕ) → length rep ≢ report_size → reported a rep ≡ rep
other_length (Ok (Moved n)) rep h = refl
other_length (Ok (Checked s f)) rep h = refl
other_length (Ok (Compacted n why)) rep h = rw (ne_eqb (length rep) report_size h)
other_length (Err why) rep h = refl

module _ (quota : ℕ) (img bs rep : List ℕ) where
  abbrev answer : Answer
  answer = (step (compact quota) (state img (unpacked_desk bs))).answer

  told_done : (n : ℕ) (why : Ending) → desk_form bs ≡ true → answer ≡ Ok (Compacted n why) → length rep ≡ report_size
      → report_after quota img bs rep ≡ ending_number why ∷ 0 ∷ bytes2 n
  unfolding report_after ruled
  told_done n why form e h = rw (form, e, eq-eqb (length rep) report_size h)

  -- bad desk bytes, or the call's own answer
  left_other : length rep ≢ report_size → report_after quota img bs rep ≡ rep
  unfolding report_after ruled
  left_other h = go (desk_form bs) refl
    where
      go : (b : Bool) → desk_form bs ≡ b → report_after quota img bs rep ≡ rep
      go true q = rw q (other_length answer rep h)
      go false q = rw q

  left_refused : (serve (compact quota) img bs).returned ≢ 0x00 → report_after quota img bs rep ≡ rep
  unfolding report_after serve ruled
  left_refused n = go (desk_form bs) refl (which answer)
    where
      go : (b : Bool) → desk_form bs ≡ b → Which answer → report_after quota img bs rep ≡ rep
      go true q (was_done h z) = absurd (n (rw q z))
      go true q (was_refused why e) = rw (q, e)
      go false q w = rw q

pub reports_told : ReportsTold
reports_told quota img bs rep = record {
  if_done = told_done quota img bs rep;
  if_refused = left_refused quota img bs rep;
  if_other_length = left_other quota img bs rep;
}
