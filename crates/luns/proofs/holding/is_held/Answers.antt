use mathlib.Core.Path.{ap, sym, ◌∙◌}
use mathlib.Core.Bool.{not}
use Rattle.luns.proofs.Steps.{all_as}
use Rattle.luns.proofs.Probing.{probed_all}
use Rattle.luns.proofs.holding.is_held.Goals as goal

pub returns : goal.returns
returns c = ap not (c.agrees_with.ensures ∙ sym (all_as _ _)) ∙ probed_all _ _
