use mathlib.Core.Path.{sym, ap, ◌∙◌}
use mathlib.Core.Bool.{not}
use Rattle.work.specs.Refusals.{ruled}
use Rattle.work.specs.Volumes.{bring_up_rules}
use Rattle.work.specs.Code.Deeds.{done_by, bring_up_deed, quiet}
use Rattle.work.proofs.Quiet.{none_moved}
use Rattle.work.proofs.bringing.bring_up.Goals as goal

pub returns-then-is_err : goal.returns-then-is_err
unfolding bring_up_deed bring_up_rules done_by ruled
returns-then-is_err c = rw (c.bring_up.ensures.1, sym c.bring_up.ensures.0 ∙ c.is_err.ensures.negation ∙ ap not c.if-is_err.true)

pub returns : goal.returns
unfolding bring_up_deed bring_up_rules quiet done_by ruled
returns c = rw (none_moved c.default.result c.default.ensures, c.bring_up.ensures.1, sym c.bring_up.ensures.0 ∙ c.is_err.ensures.negation ∙ ap not c.if-is_err.false)
