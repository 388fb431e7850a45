use mathlib.Core.Path.{◌≡◌}
use Prim.Native.Nat.{◌-◌}
use lib.ListN.{length}
use Rattle.lists.specs.Lists.{range}
use Rattle.volume.specs.Sat.{with_bits}
use Rattle.volume.specs.Code.Marks.{bit_of}
use Rattle.volume.proofs.sat.set_bits.Given as goal

abbrev pub invariant-loop-i : goal.invariant-loop-i
invariant-loop-i l =
    (length l.sat ≡ 256) × (with_bits (bit_of l.mark) l.sat (range l.i (l.i-end - l.i)) ≡ with_bits (bit_of l.mark) l.initial.sat (range l.s l.n))
