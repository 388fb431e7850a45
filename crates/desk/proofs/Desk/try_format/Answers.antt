use Rattle.desk.proofs.Openings.{handed_on}
use Rattle.desk.proofs.Told.{format_told}
use Rattle.desk.proofs.Desk.try_format.Goals as goal

pub returns-in_err-format : goal.returns-in_err-format
returns-in_err-format c =
    rw (handed_on _ _ c.from_residual.ensures.1) (format_told _ _ _ _ _ _ (rw c.in_err-format.was at c.format.ensures))

pub returns : goal.returns
returns c = rw c.empty.ensures (format_told _ _ _ _ _ _ (rw c.in_ok-format.was at c.format.ensures))
