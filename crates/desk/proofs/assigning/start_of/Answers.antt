use Rattle.std.proofs.Common.{arith}
use Rattle.desk.proofs.Bounds.{extent_small}
use Rattle.desk.proofs.assigning.start_of.Goals as goal

pub overflow_cast-last : goal.overflow_cast-last
overflow_cast-last c = record { fits = omega (arith, extent_small _ _ _ c.requires, c.extent_of-n.ensures) }
