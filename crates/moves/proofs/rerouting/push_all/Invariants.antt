-- The loop's invariant: the sectors of the segments so far, with q for number i, have joined the block.
use mathlib.Core.Path.{◌≡◌}
use mathlib.Core.Bool.{true}
use Prim.Native.Nat.{◌≤◌, ◌*◌}
use lib.ListN.{length, set}
use Rattle.ownership.specs.Code.Shapes.{Extended}
use Rattle.files.proofs.map.MapFilled.{first_of}
use Rattle.moves.specs.Code.Shapes.{TakesRuns}
use Rattle.moves.proofs.rerouting.push_all.Given as goal

abbrev pub invariant-loop-pair : goal.invariant-loop-pair
invariant-loop-pair l =
    (l.at ≡ length (first_of l.f l.pair-index)) × (l.at ≤ 65536 * l.pair-index) × TakesRuns l.g × Extended l.initial.g (set (first_of l.f l.pair-index) l.i l.q) true l.g
