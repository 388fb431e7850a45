use mathlib.Core.Path.{◌∙◌}
use Rattle.files.specs.Code.Opens.{stored_at}
use Rattle.files.proofs.replace.write_at.Goals as goal

pub returns : goal.returns
unfolding stored_at
returns c = c.write_stream.ensures ∙ rw c.map_of-map.ensures
