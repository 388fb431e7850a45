use mathlib.Core.Path.{◌∙◌}
use native.Mathlib.Omega.{arith}
use Rattle.volume.proofs.Searches.QuadBytes.{quad_is}
use Rattle.volume.proofs.quads.quad_at.Goals as goal

pub returns : goal.returns
returns c = c.from_be_bytes.ensures ∙ rw c.as_chunks.ensures.front (quad_is c.args.sat.now _ c.args.q (omega arith))
