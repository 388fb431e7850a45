-- The loop's invariant: what is left to give makes of the table what all segments make of it.
use mathlib.Core.Path.{◌≡◌}
use lib.ListN.{drop}
use Rattle.lists.specs.Lists.{flat}
use Rattle.ownership.specs.Blocks.{segment, pairs, sectors_of}
use Rattle.compaction.specs.Code.Holders.{given}
use Rattle.compaction.proofs.holders.give_block.Given as goal

abbrev pub invariant-loop-pair : goal.invariant-loop-pair
invariant-loop-pair l = given l.k (flat segment (drop l.pair-index (pairs l.f))) l.who ≡ given l.k (sectors_of l.f) l.initial.who
