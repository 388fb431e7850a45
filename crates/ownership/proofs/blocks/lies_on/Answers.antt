use Rattle.ownership.proofs.blocks.lies_on.Goals as goal

pub placed-requires : goal.placed-requires
placed-requires c = (c.args.v.now.located.long, c.requires)
