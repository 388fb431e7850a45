-- A LUN in EREW agrees with those alone that do not hold its file, since it shuts out every mode.
use mathlib.Core.Path.{◌≡◌, refl}
use mathlib.Core.Bool.{Bool, true, false, not}
use mathlib.Core.List.{List, [], ◌∷◌}
use Prim.Native.Nat.{ℕ}
use lib.Dec.{eqb}
use Rattle.lists.specs.Lists.{◌and◌, ◌or◌, all, some}
use Rattle.lists.proofs.Bools.{or-false}
use Rattle.luns.specs.declared.Lun.{Lun}
use Rattle.luns.specs.declared.Mode.{Mode}
use Rattle.luns.specs.declared.Mode.TheVariants.{Pr, Er, Pw, Ew, Prpw, Prew, Erpw, Erew}
use Rattle.luns.specs.declared.Place.TheVariants.{Fresh}
use Rattle.luns.specs.Modes.{compatible, modes_open}
use Rattle.luns.specs.Luns.{agree, holds_slot, is_held}
use Rattle.luns.proofs.Fitting.{eqb_swap}

abbrev pub probe : ℕ → Lun
probe k = record { held = true; user = 0; slot = k; mode = Erew; offered = 0; place = Fresh }

shut_out : (m : Mode) → compatible Erew m ≡ false
unfolding modes_open ◌and◌ ◌or◌
shut_out Pr = refl
shut_out Er = refl
shut_out Pw = refl
shut_out Ew = refl
shut_out Prpw = refl
shut_out Prew = refl
shut_out Erpw = refl
shut_out Erew = refl

probed : (k : ℕ) (v : Lun) → agree (probe k) v ≡ not (holds_slot k v)
unfolding agree holds_slot ◌and◌
probed k v = rw (shut_out v.mode, or-false (not (v.held and eqb k v.slot)), eqb_swap k v.slot)

either : (h a : Bool) → not (not h and a) ≡ h or not a
unfolding ◌and◌ ◌or◌
either true a = refl
either false a = refl

pub probed_all : (k : ℕ) (us : List Lun) → not (all (agree (probe k)) us) ≡ is_held us k
unfolding is_held all some
probed_all k [] = refl
probed_all k (v ∷ us) = rw (probed k v, either (holds_slot k v) (all (agree (probe k)) us), probed_all k us)
