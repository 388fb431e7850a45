use mathlib.Core.Path.{◌≡◌}
use Prim.Native.Nat.{◌+◌, ◌/◌}
use native.Mathlib.Omega.{arith}
use Rattle.lists.specs.Parts.{in_sectors}
use Rattle.files.proofs.appending.AppendNumbers.{extended_shaped, extended_totals}
use Rattle.files.proofs.appending.grow.Goals as goal

pub set_totals-requires : goal.set_totals-requires
set_totals-requires c =
    (extended_shaped c.args.f.now c.args.ss.now c.requires.0 _ c.extend_all.ensures, omega (arith, c.div_ceil.ensures), omega arith)

pub returns : goal.returns
unfolding in_sectors
returns c =
    let up : c.div_ceil.result ≡ (c.args.e + 255) / 256 = omega (arith, c.div_ceil.ensures) in
    rw (← up) (extended_totals c.args.f.now c.args.ss.now c.requires.0 _ c.extend_all.ensures _ _ _
    c.set_totals.ensures)
