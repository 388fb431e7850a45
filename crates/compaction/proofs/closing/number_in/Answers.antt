use mathlib.Core.Path.{◌∙◌}
use native.Mathlib.Omega.{arith}
use Rattle.numbers.specs.Numbers.{most_sectors}
use Rattle.ownership.specs.Blocks.{block}
use Rattle.ownership.proofs.BlockFacts.{block_facts}
use Rattle.files.proofs.map.OpenBlock.{load_asks}
use Rattle.files.proofs.slot.SlotInUse.{used_Opens}
use Rattle.files.proofs.SequentialFile.{logical_is}
use Rattle.compaction.proofs.closing.number_in.Goals as goal

pub sector_of-requires : goal.sector_of-requires
sector_of-requires c = omega (arith, rw c.entry_of.ensures at c.start.ensures.0, (used_Opens _ _ _ c.requires.0 c.requires.1).inside)

pub number_of-requires : goal.number_of-requires
number_of-requires c =
    let o = rw (← (rw c.entry_of.ensures at c.start.ensures.0)) at (used_Opens _ _ _ c.requires.0 c.requires.1) in
    let g = load_asks _ _ o _ c.sector_of.ensures in
    (block_facts most_sectors _ g.1).few

pub returns : goal.returns
unfolding block
returns c =
    c.number_of.ensures ∙ rw (c.sector_of.ensures, c.start.ensures.0, c.entry_of.ensures, logical_is _ c.requires.0.used c.requires.1 c.args.img.now)
