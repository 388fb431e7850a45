-- The desk's LUNs, read and put: what fitting says of them.
use mathlib.Core.List.{List}
use mathlib.Core.Path.{◌≡◌}
use mathlib.Core.Bool.{true}
use Prim.Native.Nat.{ℕ, ◌<◌}
use Rattle.numbers.specs.Numbers.{lun_count}
use Rattle.lists.specs.Lists.{all}
use Rattle.volume.specs.Directory.{entry_at}
use Rattle.luns.specs.declared.Place.{Place}
use Rattle.luns.specs.declared.Lun.{Lun}
use Rattle.luns.specs.Luns.{moved_to, agree, place_exists, lun_fits}
use Rattle.luns.proofs.Fitting.{Fitting, Fitting-free, Fitted, Fitted-at, Fitting-put, Fitting-moved}
use Rattle.desk.specs.Desk.{empty_desk, lun_at, put_lun}
use Rattle.desk.specs.declared.Desk.{Desk}

pub empty_Fitting : (v : List ℕ) → Fitting v empty_desk.luns
unfolding empty_desk
empty_Fitting v = Fitting-free v

-- the LUN with number k: what it holds fits, another that fits and agrees with all takes its place, it moves to a place that exists
module _ (v : List ℕ) (d : Desk) (k : ℕ) where
  pub lun_fits_lem : k < lun_count → (lun_at d k).held ≡ true → Fitting v d.luns → Fitted v (lun_at d k)
  unfolding lun_at
  lun_fits_lem l h f = Fitted-at v d.luns k l h f

  pub put_Fitting : (u : Lun) → lun_fits v u ≡ true → all (agree u) d.luns ≡ true → Fitting v d.luns → Fitting v (put_lun d k u).luns
  unfolding put_lun
  put_Fitting u h a f = Fitting-put v d.luns k u h a f

  pub moved_Fitting : (p : Place) → k < lun_count → (lun_at d k).held ≡ true → place_exists v (entry_at v (lun_at d k).slot) p ≡ true → Fitting v d.luns
      → Fitting v (put_lun d k (moved_to p (lun_at d k))).luns
  unfolding put_lun lun_at
  moved_Fitting p l h x f = Fitting-moved v d.luns k p l h x f
