-- The loop's invariant: the first i bytes are written to the stream, and nothing but its sectors.
use mathlib.Core.Path.{◌≡◌}
use Prim.Native.Nat.{◌≤◌, ◌-◌}
use lib.ListN.{length}
use Rattle.records.proofs.ChunkWritten.{Wrote}
use Rattle.records.proofs.chunks.write_stream.Given as goal

abbrev pub invariant-loop-i : goal.invariant-loop-i
invariant-loop-i l = (l.i ≤ length l.src) × (length l.img ≡ length l.initial.img) × Wrote l.map l.from l.src l.initial.img l.img l.i

abbrev pub decreases-loop-i : goal.decreases-loop-i
decreases-loop-i l = length l.src - l.i
