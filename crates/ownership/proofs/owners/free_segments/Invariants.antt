use mathlib.Core.Path.{◌≡◌}
use lib.ListN.{length, drop}
use Rattle.lists.specs.Lists.{flat}
use Rattle.volume.specs.Sat.{with_bits}
use Rattle.ownership.specs.Blocks.{segment, pairs, sectors_of}
use Rattle.ownership.proofs.owners.free_segments.Given as goal

abbrev pub invariant-loop-pair : goal.invariant-loop-pair
invariant-loop-pair l =
    (length l.sat ≡ length l.initial.sat)
    × (with_bits 0 l.initial.sat (sectors_of l.f) ≡ with_bits 0 l.sat (flat segment (drop l.pair-index (pairs l.f))))
