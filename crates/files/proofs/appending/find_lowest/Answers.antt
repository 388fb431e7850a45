use mathlib.Core.Path.{◌∙◌}
use native.Mathlib.Omega.{arith}
use Rattle.volume.specs.Sat.{free, lowest}
use Rattle.files.proofs.appending.AppendNumbers.{table_free, lowest_front}
use Rattle.files.proofs.appending.find_lowest.Goals as goal

pub lowest_free-requires : goal.lowest_free-requires
unfolding free
lowest_free-requires c =
    let v = c.args.img.now in (
      omega (arith, c.requires.0.high),
      rw (table_free v c.args.p c.requires.0 _ c.sector_of.ensures) c.requires.1,
      c.requires.2,
    )

pub returns : goal.returns
unfolding lowest
returns c =
    lowest_front c.args.img.now c.args.n c.lowest_free.new.out c.args.room.now c.requires.1
    (c.lowest_free.ensures ∙ rw (table_free c.args.img.now c.args.p c.requires.0 _ c.sector_of.ensures))
