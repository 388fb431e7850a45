use mathlib.Core.Path.{refl}
use Rattle.front.proofs.areas.span_of.Goals as goal

pub returns : goal.returns
returns c = rw c.names_shared.ensures refl
