use Rattle.std.proofs.Common.{◌≡◌, ◌≤◌, length}
use Rattle.twyn.proofs.print.HexDisplay.fmt.Given as goal

abbrev pub invariant-loop-pair : goal.invariant-loop-pair
invariant-loop-pair g l = (l.bytes-iterator.size ≡ 512) × (length l.bytes ≤ 512)

abbrev pub invariant-loop-byte : goal.invariant-loop-byte
invariant-loop-byte g l = l.bytes-iterator.size ≡ 512

abbrev pub invariant-loop-bytes : goal.invariant-loop-bytes
invariant-loop-bytes g l = l.bytes-iterator.size ≡ 512
