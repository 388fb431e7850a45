-- The loop's invariant: what is left of the quota makes of the image what the whole quota makes of the volume, and the searches may go on.
use Prim.Native.Nat.{◌-◌}
use Rattle.compaction.specs.Code.Going.{Going}
use Rattle.compaction.proofs.closing.close_up.Given as goal

abbrev pub invariant-loop-hi : goal.invariant-loop-hi
invariant-loop-hi l = Going l.initial.img l.quota l.p l.img l.who l.hi l.lo l.moved

abbrev pub decreases-loop-hi : goal.decreases-loop-hi
decreases-loop-hi l = l.quota - l.moved
