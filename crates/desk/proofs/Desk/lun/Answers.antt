use mathlib.Core.Path.{refl}
use Rattle.luns.specs.Luns.{free_lun}
use Rattle.desk.specs.Desk.{lun_at}
use Rattle.desk.proofs.Desk.lun.Goals as goal

pub returns : goal.returns
unfolding lun_at free_lun
returns c = refl
