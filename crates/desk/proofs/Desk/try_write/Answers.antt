use mathlib.Core.Path.{sym, ◌∙◌}
use Rattle.desk.specs.Calls.{step, rules, given}
use Rattle.desk.proofs.Openings.{handed_on, opened_refused, opened_mine}
use Rattle.desk.proofs.WhoseLun.{mine_low}
use Rattle.desk.proofs.Held.{opened_InUse}
use Rattle.desk.proofs.Told.{write_told}
use Rattle.desk.proofs.Desk.try_write.Goals as goal

pub returns-in_err-a : goal.returns-in_err-a
unfolding step rules given
returns-in_err-a c =
    rw (handed_on _ _ c.from_residual.ensures.1)
    (sym (opened_refused _ _ _ _ _ _ _ (sym c.open.ensures ∙ c.in_err-a.was) _ _ _))

pub write-requires : goal.write-requires
write-requires c = opened_InUse _ _ _ _ _ _ _ (sym c.open.ensures ∙ c.in_ok-a.was)

pub returns-in_err-done : goal.returns-in_err-done
returns-in_err-done c =
    rw (handed_on _ _ c.from_residual-in_err-done.ensures.1)
    (write_told _ _ _ _ _ _ _ _ _ (sym c.open.ensures ∙ c.in_ok-a.was) _ _ (rw c.in_err-done.was at c.write.ensures))

pub settle-requires : goal.settle-requires
settle-requires c = mine_low _ _ _ (opened_mine _ _ _ _ _ _ _ (sym c.open.ensures ∙ c.in_ok-a.was))

pub returns : goal.returns
returns c =
    rw (c.settle.ensures.report, c.settle.ensures.desk)
    (write_told _ _ _ _ _ _ _ _ _ (sym c.open.ensures ∙ c.in_ok-a.was) _ _ (rw c.in_ok-done.was at c.write.ensures))
