use Rattle.desk.proofs.Openings.{handed_on}
use Rattle.desk.proofs.Told.{bring_up_told}
use Rattle.desk.proofs.Desk.try_bring_up.Goals as goal

pub returns-in_err-bring_up : goal.returns-in_err-bring_up
returns-in_err-bring_up c =
    rw (handed_on _ _ c.from_residual.ensures.1) (bring_up_told _ _ _ _ (rw c.in_err-bring_up.was at c.bring_up.ensures))

pub returns : goal.returns
returns c = bring_up_told _ _ _ _ (rw c.in_ok-bring_up.was at c.bring_up.ensures)
