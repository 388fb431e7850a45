-- The parts in which the code judges whether a held LUN fits.
use mathlib.Core.Path.{◌≡◌, refl}
use mathlib.Core.Bool.{true, false}
use mathlib.Core.List.{List, []}
use Prim.Native.Nat.{ℕ, ◌*◌, ◌≤◌, ◌<◌}
use lib.ListN.{length, get_or-eq_default}
use borrow.Author.Tests.{not-true}
use Rattle.lists.specs.Lists.{◌and◌, ◌or◌, all}
use Rattle.lists.proofs.Tests.{and_left}
use Rattle.volume.specs.Volume.{dirs}
use Rattle.volume.specs.Directory.{entries, entry_at, unused, contiguous}
use Rattle.volume.proofs.Slots.{length-entries}
use Rattle.files.specs.Files.{extent}
use Rattle.files.proofs.slot.UsedSlots.{used_slot}
use Rattle.luns.specs.declared.Place.{Place}
use Rattle.luns.specs.declared.Place.TheVariants.{Fresh, At}
use Rattle.luns.specs.declared.Lun.{Lun}
use Rattle.luns.specs.Luns.{lun_fits, place_exists}
use Rattle.luns.specs.Code.Fits.{seated, place_within}

-- an entry that does not exist is not in use
pub past_unused : (img : List ℕ) (k : ℕ) → 8 * dirs img ≤ k → unused (entry_at img k) ≡ true
unfolding entry_at all
past_unused img k h =
    let l : length (entries img) ≤ k = rw (length-entries img) h in
    rw (get_or-eq_default (entries img) [] l)

pub place_exists_lem : (img e : List ℕ) (p : Place) → place_exists img e p ≡ place_within (contiguous e) (extent img e) p
unfolding place_exists place_within
place_exists_lem img e Fresh = refl
place_exists_lem img e (At i n) = refl

module _ (img : List ℕ) (u : Lun) where
  pub seated_used : seated img u ≡ true → unused (entry_at img u.slot) ≡ false
  unfolding seated
  seated_used e = not-true _ (and_left _ _ (and_left _ _ (and_left _ _ e)))

  pub seated_low : seated img u ≡ true → u.slot < 8 * dirs img
  seated_low e = used_slot img u.slot (seated_used e)

  pub held_parts : u.held ≡ true → lun_fits img u ≡ seated img u and place_exists img (entry_at img u.slot) u.place
  unfolding lun_fits seated ◌or◌
  held_parts h = rw h
