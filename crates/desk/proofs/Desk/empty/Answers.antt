use mathlib.Core.Path.{◌∙◌}
use Rattle.deskbytes.proofs.UnpackedDesk.{unpacked_zeros}
use Rattle.desk.specs.Desk.{empty_desk}
use Rattle.desk.proofs.Desk.empty.Goals as goal

pub returns : goal.returns
unfolding empty_desk
returns c = rw (c.unpack.ensures ∙ unpacked_zeros)
