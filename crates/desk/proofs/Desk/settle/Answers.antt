use mathlib.Core.Path.{refl}
use Rattle.luns.specs.Luns.{free_lun}
use Rattle.desk.specs.Desk.{lun_at, put_lun}
use Rattle.desk.proofs.Desk.settle.Goals as goal

pub returns-clause-desk : goal.returns-clause-desk
unfolding put_lun lun_at free_lun
returns-clause-desk c = rw c.moved_to.ensures refl
