-- The file behind a LUN of a desk that fits is in use, and so is the one that an open transfer aims at.
use Rattle.std.specs.Prelude.{Ok}
use mathlib.Core.Path.{◌≡◌}
use mathlib.Core.Bool.{Bool, true}
use Prim.Native.Nat.{ℕ}
use native.Mathlib.Omega.{arith}
use Rattle.lists.proofs.Tests.{and_left, and_right}
use Rattle.volume.specs.declared.locate.Layout.{Layout}
use Rattle.volume.specs.Volume.{layout_of}
use Rattle.files.specs.Code.Slots.{InUse}
use Rattle.files.proofs.slot.UsedSlots.{used_slot}
use Rattle.luns.proofs.Fitting.{Fitting, fitting}
use Rattle.desk.specs.Desk.{State, lun_at, ready, mine}
use Rattle.desk.specs.declared.opening.Aim.{Aim}
use Rattle.desk.specs.Code.Opened.{aim_of, opened_of}
use Rattle.desk.specs.Code.Left.{Begins}
use Rattle.desk.proofs.DeskFitting.{lun_fits_lem}
use Rattle.desk.proofs.Openings.{ready-Begins, opened_aim, opened_ready, opened_mine}
use Rattle.desk.proofs.WhoseLun.{mine_low, mine-held}

pub held_InUse : (s : State) (p : Layout) (caller lun : ℕ) → Begins s p → mine s.desk caller lun ≡ true → InUse s.image p (lun_at s.desk lun).slot
unfolding ready
held_InUse s p caller lun b m =
    let f : Fitting s.image s.desk.luns = fitting s.image s.desk.luns (and_right _ _ b.is_ready) in
    let u = lun_fits_lem s.image s.desk lun (mine_low s.desk caller lun m) (mine-held s.desk caller lun m) f in
    record {
      located = b.located;
      is_sound = and_left _ _ b.is_ready;
      slot = omega (arith, used_slot s.image (lun_at s.desk lun).slot u.used, b.located.is_dirs);
      used = u.used;
    }

pub opened_InUse : (w : Bool) (s : State) (caller lun sel num : ℕ) (a : Aim) → opened_of w s caller lun sel num ≡ Ok a → InUse s.image a.p a.slot
unfolding aim_of
opened_InUse w s caller lun sel num a o =
    rw (opened_aim w s caller lun sel num a o)
    (held_InUse s (layout_of s.image) caller lun (ready-Begins s (opened_ready w s caller lun sel num a o)) (opened_mine w s caller lun sel num a o))
