-- The loop's invariant: the sectors of the first k segments stand at the front of the map.
use mathlib.Core.Path.{◌≡◌}
use Prim.Native.Nat.{◌≤◌}
use lib.ListN.{length}
use Rattle.lists.specs.Parts.{put}
use Rattle.ownership.specs.Blocks.{segments}
use Rattle.files.proofs.map.MapFilled.{first_of}
use Rattle.files.proofs.map.fill_map.Given as goal

abbrev pub invariant-loop-pair : goal.invariant-loop-pair
invariant-loop-pair l = (l.pair-index ≤ segments l.f) × (l.at ≡ length (first_of l.f l.pair-index)) × (l.map ≡ put 0 (first_of l.f l.pair-index) l.initial.map) × (length l.map ≡ length l.initial.map)
