use Rattle.std.proofs.Common.{◌≡◌, true, false, sym, ◌∙◌}
use Rattle.lists.specs.Lists.{◌or◌}
use Rattle.volume.specs.Directory.{unused, contiguous}
use Rattle.ownership.proofs.OwnedRuns.{chain_fits, chain_sound}
use Rattle.compaction.proofs.DataSectors.{data_none, data_chain}
use Rattle.compaction.proofs.holders.HolderTable.{given_none}
use Rattle.compaction.proofs.holders.give_entry.Goals.{then-unused-via-then-unused, then-unused-via-else-unused+then-contiguous}
use Rattle.compaction.proofs.holders.give_entry.Goals as goal

pub returns-then-unused : goal.returns-then-unused
unfolding ◌or◌
returns-then-unused c =
    let is : unused c.args.e.now or contiguous c.args.e.now ≡ true = elim c.then-unused.branch [
      | then-unused-via-then-unused w ↦ rw (sym c.unused.ensures ∙ w.if-unused.true)
      | then-unused-via-else-unused+then-contiguous w ↦ rw (sym c.unused.ensures ∙ w.if-unused.false, sym w.contiguous.ensures ∙ w.if-contiguous.true)
    ] in
    sym (given_none _ _ _ (data_none c.args.v.now.img.now c.args.e.now is))

pub sector-requires : goal.sector-requires
sector-requires c =
    let v = c.args.v.now in
    let u : unused c.args.e.now ≡ false = sym c.unused.ensures ∙ c.if-unused.false in
    let w : contiguous c.args.e.now ≡ false = sym c.contiguous.ensures ∙ c.if-contiguous.false in
    chain_fits v.img.now c.args.e.now v.p.t v.located.long c.requires u _ w c.start.ensures.0

pub give_block-requires : goal.give_block-requires
give_block-requires c =
    let v = c.args.v.now in
    let u : unused c.args.e.now ≡ false = sym c.unused.ensures ∙ c.if-unused.false in
    let w : contiguous c.args.e.now ≡ false = sym c.contiguous.ensures ∙ c.if-contiguous.false in
    (v.located.high, rw c.sector.ensures (chain_sound v.img.now c.args.e.now v.p.t v.located.long c.requires u _ w c.start.ensures.0))

pub returns : goal.returns
returns c =
    let u : unused c.args.e.now ≡ false = sym c.unused.ensures ∙ c.if-unused.false in
    let w : contiguous c.args.e.now ≡ false = sym c.contiguous.ensures ∙ c.if-contiguous.false in
    c.give_block.ensures ∙ rw (c.sector.ensures, data_chain c.args.v.now.img.now c.args.e.now _ u w c.start.ensures.0)
