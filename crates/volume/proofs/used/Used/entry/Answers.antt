use Rattle.std.proofs.Common.{◌∙◌}
use Rattle.volume.proofs.used.UsedSlots.{listed_below, listed_entry}
use Rattle.volume.proofs.used.Used.entry.Goals as goal

pub entry-requires : goal.entry-requires
entry-requires c =
    let u = c.args.self.now in
    rw c.from.ensures (listed_below _ _ u.volume.located _ u.listed c.args.i c.requires)

pub returns : goal.returns
returns c =
    let u = c.args.self.now in
    rw c.from.ensures at c.entry.ensures ∙ listed_entry _ _ u.volume.located _ u.listed c.args.i c.requires
