use mathlib.Core.Path.{refl}
use Rattle.front.specs.Front.{unpacked_desk}
use Rattle.front.proofs.desks.open.Goals as goal

pub returns : goal.returns
unfolding unpacked_desk
returns c = rw c.unpack.ensures refl
