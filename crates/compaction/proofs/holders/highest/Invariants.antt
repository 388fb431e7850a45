-- The loop's invariant: what is left answers as the whole.
use mathlib.Core.Path.{◌≡◌}
use Rattle.lists.specs.Lists.{topmost}
use Rattle.compaction.specs.Code.Holders.{is_held}
use Rattle.compaction.proofs.holders.highest.Given as goal

abbrev pub invariant-loop-i : goal.invariant-loop-i
invariant-loop-i l = topmost (is_held l.who l.none) l.i ≡ topmost (is_held l.who l.none) l.hi
