use Rattle.lists.specs.Parts.{part}
use Rattle.front.proofs.FilledAreas.{fills_part}
use Rattle.front.proofs.requests.read_at.Goals as goal

pub returns : goal.returns
unfolding part
returns c =
    fills_part _ _ _ _ c.read.new.buffer _ _ c.requires.0 c.requires.1 c.read.auto.buffer
    c.read.ensures
