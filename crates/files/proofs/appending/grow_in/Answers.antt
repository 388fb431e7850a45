use Rattle.lists.specs.Parts.{in_sectors}
use Rattle.lists.proofs.LentParts.{lent_sector, wrote_by}
use Rattle.ownership.specs.Blocks.{pairs, extended_by, block_of}
use Rattle.ownership.proofs.AccessBlocks.{length-block_of, fours-pairs}
use Rattle.ownership.proofs.Segments.{fours-extended_by}
use Rattle.files.proofs.appending.grow_in.Goals as goal

pub grow-requires : goal.grow-requires
grow-requires c = (rw (lent_sector c.args.s c.args.img.now) c.requires.1, c.requires.2)

pub returns : goal.returns
returns c =
    let a = c.args in
    wrote_by (λ f. block_of (extended_by (pairs f) a.ss.now) (in_sectors a.e) a.e) a.s a.img.now _ c.grow.ensures
    (length-block_of _ _ _ (fours-extended_by _ a.ss.now (fours-pairs _ c.requires.1.shaped)) c.requires.1.room)
