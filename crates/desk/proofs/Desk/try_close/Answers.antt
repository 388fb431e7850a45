use mathlib.Core.Path.{ap, sym, ◌∙◌}
use Rattle.desk.specs.Code.Opened.{begun_of}
use Rattle.desk.specs.Calls.{step, rules, done, given, quietly}
use Rattle.desk.proofs.Openings.{handed_on, only_refused, only_done, begun_fine}
use Rattle.desk.proofs.WhoseLun.{mine_low}
use Rattle.desk.proofs.Desk.try_close.Goals as goal

pub returns-in_err-begin : goal.returns-in_err-begin
unfolding step rules done given
returns-in_err-begin c =
    rw (handed_on _ _ c.from_residual.ensures.1)
    (sym (only_refused _ _ _ (sym (c.begin.ensures ∙ ap (begun_of _) c.mine.ensures) ∙ c.in_err-begin.was) _ _))

pub set_lun-requires : goal.set_lun-requires
set_lun-requires c =
    mine_low _ _ _ (begun_fine _ _ _ (sym (c.begin.ensures ∙ ap (begun_of _) c.mine.ensures) ∙ c.in_ok-begin.was))

pub returns : goal.returns
unfolding step rules done given quietly
returns c =
    rw (c.set_lun.ensures, c.free.ensures)
    (sym (only_done _ _ _ (sym (c.begin.ensures ∙ ap (begun_of _) c.mine.ensures) ∙ c.in_ok-begin.was) _ _))
