use Prim.Native.Nat.{◌-◌, ◌*◌, ◌^◌, ◌%◌}
use native.Mathlib.Omega.{arith}
use Rattle.volume.proofs.Searches.NumberBits.{clear_none, clear_from, counts_fit}
use Rattle.volume.proofs.quads.first_clear.Goals as goal

pub returns-then-rest-eq0 : goal.returns-then-rest-eq0
returns-then-rest-eq0 c = clear_none 8 c.args.b c.args.k c.ranges.b.fits c.requires c.if-rest-eq0.true

pub overflow_cast-result : goal.overflow_cast-result
overflow_cast-result c = record { fits = omega (arith, counts_fit 8 ((255 - c.args.b) * 2 ^ c.args.k % 256)) }

pub overflow_add-result : goal.overflow_add-result
overflow_add-result c = record { fits = omega (arith, counts_fit 8 ((255 - c.args.b) * 2 ^ c.args.k % 256)) }

pub returns : goal.returns
returns c = clear_from 8 c.args.b c.args.k c.ranges.b.fits c.requires c.if-rest-eq0.false
