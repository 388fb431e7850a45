-- The loop's invariant: the first i bytes are copied.
use mathlib.Core.Path.{◌≡◌}
use Prim.Native.Nat.{◌-◌, ◌≤◌}
use lib.ListN.{length}
use Rattle.records.specs.Streams.{laid_out}
use Rattle.records.proofs.CopiedParts.{Copied}
use Rattle.records.proofs.stream.Stream.read.Given as goal

abbrev pub invariant-loop-i : goal.invariant-loop-i
invariant-loop-i l = (l.i ≤ l.len) × (length l.buf ≡ length l.initial.buf) × Copied (laid_out l.self.img.now l.self.map.now) l.from l.len l.initial.buf l.buf l.i

abbrev pub decreases-loop-i : goal.decreases-loop-i
decreases-loop-i l = l.len - l.i
