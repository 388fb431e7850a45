-- The loop's invariant: the number in what is left, after the sectors passed, is the number in the whole.
use mathlib.Core.Path.{◌≡◌}
use Prim.Native.Nat.{◌+◌, ◌*◌, ◌≤◌}
use lib.Dec.{eqb}
use lib.ListN.{drop}
use Rattle.lists.specs.Lists.{flat, index}
use Rattle.ownership.specs.Blocks.{segment, pairs, sectors_of}
use Rattle.compaction.proofs.holders.number_of.Given as goal

abbrev pub invariant-loop-pair : goal.invariant-loop-pair
invariant-loop-pair l =
    (l.at ≤ 65536 * l.pair-index)
    × (l.at + index (eqb l.h) (flat segment (drop l.pair-index (pairs l.f))) ≡ index (eqb l.h) (sectors_of l.f))
