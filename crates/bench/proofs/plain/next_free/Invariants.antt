use mathlib.Core.Path.{◌≡◌}
use Rattle.std.proofs.Common.{◌≤◌, ◌-◌, max}
use Rattle.lists.specs.Lists.{first}
use Rattle.volume.specs.Sat.{is_free}
use Rattle.bench.proofs.plain.next_free.Given as goal

abbrev pub invariant-loop-i : goal.invariant-loop-i
invariant-loop-i l = (l.i ≤ max l.from l.t) × (first (is_free l.sat) l.from (l.t - l.from) ≡ first (is_free l.sat) l.i (l.t - l.i))
