use mathlib.Core.Path.{◌∙◌}
use Rattle.volume.specs.Volume.{sat}
use Rattle.volume.specs.Sat.{lowest_run}
use Rattle.files.proofs.allocation.lowest_start.Goals as goal

pub returns : goal.returns
unfolding lowest_run sat
returns c =
    c.lowest_run.ensures ∙ rw (c.sector_of.ensures, c.taken-n.ensures, c.requires.0.is_t, c.requires.0.is_sat)
