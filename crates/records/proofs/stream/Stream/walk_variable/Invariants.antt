-- The loop's invariant: the n records up to p are whole, what is left answers as the whole stream does, and the run of p is known.
use mathlib.Core.Path.{◌≡◌}
use Prim.Native.Nat.{◌-◌, ◌%◌, ◌≤◌}
use Rattle.records.specs.Code.Mapped.{stream_in}
use Rattle.records.specs.Code.Runs.{run_from}
use Rattle.records.proofs.WalkSteps.{Walked}
use Rattle.records.proofs.stream.Stream.walk_variable.Given as goal

abbrev pub invariant-loop-p : goal.invariant-loop-p
invariant-loop-p l = (l.p ≤ l.e) × (l.n ≤ l.p) × (l.p % 2 ≡ 0) × (l.run ≡ run_from l.self.map.now l.p) × Walked (stream_in l.self.img.now l.self.map.now l.e) l.p l.n

abbrev pub decreases-loop-p : goal.decreases-loop-p
decreases-loop-p l = l.e - l.p
