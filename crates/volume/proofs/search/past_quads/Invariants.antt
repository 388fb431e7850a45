use Prim.Native.Nat.{◌*◌}
use Rattle.volume.specs.Code.Searches.{Passed}
use Rattle.volume.proofs.search.past_quads.Given as goal

abbrev pub invariant-loop-j : goal.invariant-loop-j
invariant-loop-j l = Passed l.sat l.q (8 * l.j)
