-- One LUN put: it is what was put, and the others are as they were. The LUNs of an empty desk.
use mathlib.Core.Path.{◌≡◌, refl, sym}
use Prim.Native.Nat.{ℕ, zero, suc, ◌<◌}
use native.Mathlib.Omega.{arith}
use lib.ListN.{get_or, replicate}
use lib.Seq.{get_or-set_same, get_or-set_other}
use Rattle.numbers.specs.Numbers.{lun_count}
use Rattle.luns.specs.declared.Lun.{Lun}
use Rattle.luns.specs.declared.Place.TheVariants.{At}
use Rattle.luns.specs.Luns.{free_lun, moved_to}
use Rattle.luns.proofs.Fitting.{Fitting}
use Rattle.work.specs.Transfers.{Moving}
use Rattle.desk.specs.Desk.{State, empty_desk, lun_at, put_lun}
use Rattle.desk.specs.Calls.{after}
use Rattle.promises.specs.Contents.{OnlyLun}
use Rattle.promises.proofs.Held.{Held}

pub only_put : (s : State) (lun : ℕ) (u : Lun) → lun < lun_count → Fitting s.image s.desk.luns → OnlyLun s.desk (put_lun s.desk lun u) lun u
unfolding lun_at put_lun
only_put s lun u l f = record {
  this_lun = get_or-set_same s.desk.luns lun u free_lun (omega (arith, l, f.sixteen));
  other_luns = λ j n. get_or-set_other s.desk.luns lun j u free_lun n;
}

-- every LUN of an empty desk is free
free_at : (n j : ℕ) → get_or (replicate n free_lun) j free_lun ≡ free_lun
free_at zero j = refl
free_at (suc n) zero = refl
free_at (suc n) (suc j) = free_at n j

pub empty_lun : (j : ℕ) → lun_at empty_desk j ≡ free_lun
unfolding lun_at empty_desk
empty_lun j = free_at lun_count j

-- a transfer: its LUN moves, to n units
pub only_moved : (s : State) (lun : ℕ) (m : Moving) (n : ℕ) → m.count ≡ n → Held s lun
    → OnlyLun s.desk (after s.desk lun m) lun (moved_to (At m.from n) (lun_at s.desk lun))
unfolding after
only_moved s lun m n p H = rw (sym p) (only_put s lun _ H.lun_in H.fits_of)
