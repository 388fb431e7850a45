-- The file that a descriptor names, once $64 and $17 have let it pass: it is there, in use, and has that name.
use mathlib.Core.Path.{◌≡◌}
use mathlib.Core.Bool.{true, false}
use mathlib.Core.List.{List}
use Prim.Native.Nat.{ℕ, ◌*◌, ◌<◌}
use Rattle.volume.specs.Volume.{dirs}
use Rattle.volume.specs.Directory.{entry_at, unused, named}
use Rattle.files.proofs.slot.UsedSlots.{named_used}
use Rattle.keeping.proofs.SlotFound.{slot_in, slot_holds}
use Rattle.work.specs.Volumes.{exists, slot_of}
use Rattle.promises.proofs.Told.{NamedTold}

module _ {img desc : List ℕ} (N : NamedTold img desc) where
  pub file_there : slot_of img desc < 8 * dirs img
  unfolding slot_of exists
  file_there = slot_in img (named desc) N.found

  pub file_named : named desc (entry_at img (slot_of img desc)) ≡ true
  unfolding slot_of exists
  file_named = slot_holds img (named desc) N.found

  pub file_used : unused (entry_at img (slot_of img desc)) ≡ false
  file_used = named_used desc (entry_at img (slot_of img desc)) N.described file_named
