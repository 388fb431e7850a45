-- The slot that a search of the directory stops at.
use mathlib.Core.Path.{◌≡◌}
use mathlib.Core.Bool.{Bool, true}
use mathlib.Core.List.{List, []}
use Prim.Native.Nat.{ℕ, ◌*◌, ◌<◌}
use native.Mathlib.Omega.{arith}
use Rattle.lists.specs.Lists.{some, index}
use Rattle.lists.proofs.IndexFound.{some-index, index_holds}
use Rattle.volume.specs.Volume.{dirs}
use Rattle.volume.specs.Directory.{entries, entry_at}
use Rattle.volume.proofs.Slots.{length-entries}

-- the slot that a search of the entries stops at
module _ (v : List ℕ) (p : List ℕ → Bool) (h : some p (entries v) ≡ true) where
  pub slot_in : index p (entries v) < 8 * dirs v
  slot_in = omega (arith, some-index p (entries v) h, length-entries v)

  pub slot_holds : p (entry_at v (index p (entries v))) ≡ true
  unfolding entry_at
  slot_holds = index_holds p (entries v) [] (some-index p (entries v) h)
