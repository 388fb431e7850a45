-- The loop's invariant: of the packed text the first n bytes are written, and what is left is what comes of the bytes that are left, when
-- k spaces are held back.
use mathlib.Core.Path.{◌≡◌}
use Prim.Native.Nat.{◌≤◌}
use lib.ListN.{length, drop}
use Rattle.text.specs.Packing.{most_spaces, packed, packed_from}
use Rattle.lists.proofs.Fronts.{Front}
use Rattle.text.proofs.packing.pack.Given as goal

abbrev pub invariant-loop-b : goal.invariant-loop-b
invariant-loop-b l = (l.k ≤ most_spaces) × Front (packed l.bytes) (packed_from l.k (drop l.b-index l.bytes)) l.initial.out l.out l.n × (length l.out ≡ length l.initial.out)
