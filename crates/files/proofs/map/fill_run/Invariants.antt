-- The loop's invariant: the first i sectors of the run stand in the map from `at` on.
use mathlib.Core.Path.{◌≡◌}
use Prim.Native.Nat.{◌≤◌}
use lib.ListN.{length}
use Rattle.lists.specs.Parts.{put}
use Rattle.lists.specs.Lists.{range}
use Rattle.files.proofs.map.fill_run.Given as goal

abbrev pub invariant-loop-i : goal.invariant-loop-i
invariant-loop-i l = (l.i ≤ l.n) × (l.map ≡ put l.at (range l.s l.i) l.initial.map) × (length l.map ≡ length l.initial.map)
