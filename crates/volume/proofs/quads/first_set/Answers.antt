use native.Mathlib.Omega.{arith}
use Rattle.volume.proofs.Searches.NumberBits.{leading_first, counts_fit}
use Rattle.volume.proofs.quads.first_set.Goals as goal

pub overflow_cast-result : goal.overflow_cast-result
overflow_cast-result c = record { fits = omega (arith, counts_fit 64 c.args.x) }

pub returns : goal.returns
returns c = leading_first 64 c.args.x c.ranges.x.fits
