use Rattle.promises.proofs.Demands.{demands}
use Rattle.promises.proofs.promised.Goals as goal

-- src/lib.rt:5:1
pub returns : goal.returns
returns c = demands
