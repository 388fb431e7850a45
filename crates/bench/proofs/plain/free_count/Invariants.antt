use mathlib.Core.Path.{◌≡◌}
use Prim.Native.Nat.{◌+◌, ◌-◌, ◌≤◌}
use lib.ListN.{length}
use Rattle.lists.specs.Lists.{range, kept}
use Rattle.volume.specs.Sat.{is_free}
use Rattle.bench.proofs.plain.free_count.Given as goal

abbrev pub invariant-loop-i : goal.invariant-loop-i
invariant-loop-i l = (l.n ≤ l.i) × (length (kept (is_free l.sat) (range 0 l.t)) ≡ l.n + length (kept (is_free l.sat) (range l.i (l.t - l.i))))
