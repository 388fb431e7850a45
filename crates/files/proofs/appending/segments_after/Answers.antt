use mathlib.Core.Path.{◌∙◌}
use native.Mathlib.Omega.{arith}
use Rattle.ownership.specs.Blocks.{block}
use Rattle.files.specs.Changes.{new_pairs}
use Rattle.files.proofs.appending.AppendNumbers.{adds_most, adds_fab, adds_shaped, adds_new}
use Rattle.files.proofs.taking.LowestFree.{length-lowest}
use Rattle.files.proofs.appending.segments_after.Goals as goal

pub find_lowest-fresh-requires : goal.find_lowest-fresh-requires
find_lowest-fresh-requires c =
    let q = adds_most c.args.img.now c.args.p c.args.k c.args.r.now c.requires.0 in
    (c.requires.0.file.located, rw c.needed_sectors-n.ensures c.requires.1, omega (arith, c.needed_sectors-n.ensures))

pub sector_of-requires : goal.sector_of-requires
sector_of-requires c = rw (c.start.ensures.0, c.entry_of.ensures) (adds_fab _ c.args.p c.args.k _ c.requires.0)

pub segments_with-requires : goal.segments_with-requires
segments_with-requires c =
    let a = c.args in
    let l = length-lowest a.img.now c.needed_sectors-n.result (rw c.needed_sectors-n.ensures c.requires.1) in
    let q = adds_most a.img.now a.p a.k a.r.now c.requires.0 in (
      rw (c.sector_of.ensures, c.start.ensures.0, c.entry_of.ensures) (adds_shaped _ a.p a.k _ c.requires.0),
      rw c.find_lowest-fresh.ensures (omega (arith, c.needed_sectors-n.ensures)),
    )

pub returns : goal.returns
unfolding new_pairs block
returns c =
    let a = c.args in
    let m = adds_new a.img.now a.p a.k a.r.now c.requires.0 _ _ c.needed_sectors-n.ensures c.find_lowest-fresh.ensures in
    c.segments_with.ensures ∙ rw (m, c.sector_of.ensures, c.start.ensures.0, c.entry_of.ensures)
