use Prim.Native.Nat.{◌-◌}
use Rattle.volume.proofs.Searches.RunQuads.{Hunt}
use Rattle.volume.proofs.search.lowest_run.Given as goal

abbrev pub invariant-loop-start : goal.invariant-loop-start
invariant-loop-start l = Hunt l.sat l.t l.n l.start l.i

abbrev pub decreases-loop-start : goal.decreases-loop-start
decreases-loop-start l = l.t - l.i
