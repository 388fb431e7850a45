use mathlib.Core.Path.{sym, ◌∙◌}
use Rattle.deskbytes.proofs.UnpackedDesk.{form_length}
use Rattle.front.proofs.KeptDesks.{unpacked_good}
use Rattle.front.proofs.desks.serve.Goals as goal

pub keep-requires : goal.keep-requires
keep-requires g c = form_length _ (unpacked_good _ _ (sym c.unpacked.ensures ∙ c.in_ok-d.was)).0
