use mathlib.Core.Path.{refl}
use Rattle.desk.specs.Desk.{put_lun}
use Rattle.desk.proofs.Desk.set_lun.Goals as goal

pub returns : goal.returns
unfolding put_lun
returns c = refl
