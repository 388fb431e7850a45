use mathlib.Core.Path.{sym, ◌∙◌}
use Rattle.deskbytes.proofs.UnpackedDesk.{form_length}
use Rattle.front.proofs.desks.unpacked.Goals as goal

pub open-requires : goal.open-requires
open-requires c = form_length _ (sym c.in_form.ensures ∙ c.if-in_form.true)
