use mathlib.Core.Path.{sym, ◌∙◌}
use native.Mathlib.Omega.{arith}
use Rattle.lists.proofs.Tests.{and_left}
use Rattle.desk.specs.Desk.{ready}
use Rattle.desk.specs.Code.Left.{close_left}
use Rattle.desk.proofs.ClosedUp.{compact-step, close_refused, close_done, moved_few}
use Rattle.desk.proofs.Openings.{handed_on, begins, begun_refused, begun_left}
use Rattle.desk.proofs.Desk.try_compact.Goals as goal

pub returns-in_err-p : goal.returns-in_err-p
returns-in_err-p c =
    rw (handed_on _ _ c.from_residual.ensures.1)
    (sym (compact-step _ _ ∙ begun_refused _ _ _ (sym c.begin.ensures ∙ c.in_err-p.was) _ _ _))

pub returns-then-most-gt-MOST_QUOTA : goal.returns-then-most-gt-MOST_QUOTA
unfolding close_left
returns-then-most-gt-MOST_QUOTA c =
    close_refused _ _ _ c.if-most-gt-MOST_QUOTA.true
    ∙ sym (compact-step _ _ ∙ begun_left _ _ _ (sym c.begin.ensures ∙ c.in_ok-p.was) _ _ _)

pub compact-closing-requires : goal.compact-closing-requires
unfolding ready
compact-closing-requires c =
    let pre = begins _ _ _ (sym c.begin.ensures ∙ c.in_ok-p.was) in
    (pre.located, and_left _ _ pre.is_ready, omega (arith, c.if-most-gt-MOST_QUOTA.false))

pub overflow_cast-result : goal.overflow_cast-result
overflow_cast-result c =
    omega (arith, moved_few _ _ _ _ _ (omega (arith, c.if-most-gt-MOST_QUOTA.false)) c.compact-closing.ensures)

pub returns : goal.returns
unfolding close_left
returns c =
    close_done _ _ _ _ _ (omega (arith, c.if-most-gt-MOST_QUOTA.false)) c.compact-closing.ensures _
    ∙ sym (compact-step _ _ ∙ begun_left _ _ _ (sym c.begin.ensures ∙ c.in_ok-p.was) _ _ _)
