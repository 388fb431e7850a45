use Rattle.std.proofs.Common.{refl, sym}
use Rattle.std.proofs.lemmas.Iterator.Adapters.{position_from-zero}
use Rattle.volume.proofs.directory.first_named.Goals as goal

pub sectors-init : goal.sectors-init
sectors-init c = (refl, sym (position_from-zero _ c.args.entries.now))
