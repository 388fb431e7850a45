-- The loop's invariant: the search goes on at j.
use mathlib.Core.Path.{◌≡◌}
use Prim.Native.Nat.{◌≤◌, ◌<◌, ◌-◌}
use lib.ListN.{length}
use Rattle.lists.specs.Lists.{first}
use Rattle.records.specs.Code.Runs.{run_end, breaks_at}
use Rattle.records.proofs.stream.run_end.Given as goal

abbrev pub invariant-loop-j : goal.invariant-loop-j
invariant-loop-j l = (l.j ≤ length l.map) × (l.k < l.j) × (run_end l.map l.k ≡ first (breaks_at l.map) l.j (length l.map - l.j))

abbrev pub decreases-loop-j : goal.decreases-loop-j
decreases-loop-j l = length l.map - l.j
