use mathlib.Core.Path.{ap}
use native.Mathlib.Omega.{arith}
use lib.ListN.{length}
use Rattle.lists.proofs.Fronts.{Placed-none, Placed-one}
use Rattle.text.proofs.PackingSteps.{rest_none}
use Rattle.text.proofs.packing.put_rest.Goals as goal

pub returns-then-k-eq0 : goal.returns-then-k-eq0
returns-then-k-eq0 c = Placed-none _ _ _ (rest_none _ c.if-k-eq0.true)

pub bounds-out-n : goal.bounds-out-n
bounds-out-n c = omega (arith, ap length c.rest_byte.ensures)

pub returns : goal.returns
returns c = Placed-one _ _ _ _ c.rest_byte.ensures (omega (arith, ap length c.rest_byte.ensures))
