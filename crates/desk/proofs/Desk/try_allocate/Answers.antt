use mathlib.Core.Path.{sym, ◌∙◌}
use Rattle.lists.proofs.Tests.{and_left}
use Rattle.desk.specs.Desk.{ready}
use Rattle.desk.specs.Calls.{step, rules, given}
use Rattle.desk.proofs.Openings.{handed_on, begins, begun_refused}
use Rattle.desk.proofs.Told.{allocate_told}
use Rattle.desk.proofs.Desk.try_allocate.Goals as goal

pub returns-in_err-p : goal.returns-in_err-p
unfolding step rules given
returns-in_err-p c =
    rw (handed_on _ _ c.from_residual.ensures.1) (sym (begun_refused _ _ _ (sym c.begin.ensures ∙ c.in_err-p.was) _ _ _))

pub allocate-requires : goal.allocate-requires
unfolding ready
allocate-requires c =
    let b = begins _ _ _ (sym c.begin.ensures ∙ c.in_ok-p.was) in
    (b.located, and_left _ _ b.is_ready)

pub returns-in_err-allocate : goal.returns-in_err-allocate
returns-in_err-allocate c =
    rw (handed_on _ _ c.from_residual-in_err-allocate.ensures.1)
    (allocate_told _ _ _ _ _ (sym c.begin.ensures ∙ c.in_ok-p.was) _ _ _ _ _ _ (rw c.in_err-allocate.was at c.allocate.ensures))

pub returns : goal.returns
returns c =
    allocate_told _ _ _ _ _ (sym c.begin.ensures ∙ c.in_ok-p.was) _ _ _ _ _ _ (rw c.in_ok-allocate.was at c.allocate.ensures)
