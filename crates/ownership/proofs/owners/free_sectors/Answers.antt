use mathlib.Core.Path.{◌∙◌}
use Rattle.volume.specs.Sat.{free_sectors, free}
use Rattle.ownership.proofs.owners.free_sectors.Goals as goal

pub returns : goal.returns
unfolding free free_sectors
returns c = c.free_count.ensures ∙ rw (c.table.ensures, c.args.v.now.located.is_t)
