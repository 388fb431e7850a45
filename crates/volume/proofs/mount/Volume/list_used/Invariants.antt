-- The loop's invariant: of the slots in use those before slot k are listed.
use mathlib.Core.Path.{◌≡◌}
use Prim.Native.Nat.{◌≤◌, ◌-◌}
use lib.ListN.{length, drop}
use Rattle.lists.proofs.Fronts.{Front}
use Rattle.volume.specs.Directory.{entries}
use Rattle.volume.specs.Code.Used.{places_from, used_slots}
use Rattle.volume.proofs.mount.Volume.list_used.Given as goal

abbrev pub invariant-loop-k : goal.invariant-loop-k
invariant-loop-k l =
    (l.k ≤ l.end) × (l.n ≤ l.k) × (length l.used ≡ length l.initial.used) × Front (used_slots l.self.img.now) (places_from l.k (drop l.k (entries l.self.img.now))) l.initial.used l.used l.n

abbrev pub decreases-loop-k : goal.decreases-loop-k
decreases-loop-k l = l.end - l.k
