use native.Mathlib.Omega.{arith}
use Rattle.volume.specs.Code.Searches.{bit_at}
use Rattle.volume.proofs.Searches.Counted.{ones_first, count-le}
use Rattle.volume.proofs.quads.set_count.Goals as goal

pub returns : goal.returns
returns c =
    let e = ones_first 8 c.args.r c.args.b c.ranges.b.fits c.requires.1 in
    (e, omega (arith, e, count-le (bit_at 8 c.args.b) 0 c.args.r))
