use mathlib.Core.Path.{◌≡◌}
use mathlib.Core.Bool.{true}
use Prim.Native.Nat.{ℕ, ◌+◌, ◌-◌, ◌≤◌, ◌<◌}
use Rattle.volume.specs.Sat.{is_free}
use Rattle.volume.proofs.Searches.RunHunt.{None}
use Rattle.bench.proofs.plain.lowest_run.Given as goal

abbrev pub invariant-loop-start : goal.invariant-loop-start
invariant-loop-start l =
    (l.start ≤ l.i) × (l.i ≤ l.start + l.n) × (l.start ≤ l.t) × ((k : ℕ) → l.start ≤ k → k < l.i → is_free l.sat k ≡ true) × None l.sat l.t l.n l.start

abbrev pub decreases-loop-start : goal.decreases-loop-start
decreases-loop-start l = l.t + 1 - l.i
