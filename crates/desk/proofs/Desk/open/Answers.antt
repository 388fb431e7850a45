use mathlib.Core.Path.{ap, sym, ◌∙◌}
use Rattle.desk.specs.Code.Opened.{begun_of}
use Rattle.desk.proofs.Openings.{handed_on, begun_fine, open_stops, open_goes}
use Rattle.desk.proofs.WhoseLun.{mine_low}
use Rattle.desk.proofs.Desk.open.Goals as goal

pub lun-requires : goal.lun-requires
lun-requires c =
    mine_low _ _ _ (begun_fine _ _ _ (sym (c.begin.ensures ∙ ap (begun_of _) c.mine.ensures) ∙ c.in_ok-p.was))

pub returns-in_err-p : goal.returns-in_err-p
returns-in_err-p c =
    handed_on _ _ c.from_residual.ensures.1
    ∙ open_stops _ _ _ _ _ _ _ (sym (c.begin.ensures ∙ ap (begun_of _) c.mine.ensures) ∙ c.in_err-p.was)

pub returns : goal.returns
returns c =
    c.aim_at.ensures ∙ rw c.lun.ensures
    (open_goes _ _ _ _ _ _ _ (sym (c.begin.ensures ∙ ap (begun_of _) c.mine.ensures) ∙ c.in_ok-p.was))
