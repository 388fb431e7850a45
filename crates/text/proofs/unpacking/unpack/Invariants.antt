-- The loop's invariant: of the text the first n bytes are written, and what is left is what the bytes that are left stand for.
use mathlib.Core.Path.{◌≡◌}
use lib.ListN.{length, drop}
use Rattle.text.specs.Packing.{unpacked}
use Rattle.lists.proofs.Fronts.{Front}
use Rattle.text.proofs.unpacking.unpack.Given as goal

abbrev pub invariant-loop-b : goal.invariant-loop-b
invariant-loop-b l = Front (unpacked l.stored) (unpacked (drop l.b-index l.stored)) l.initial.buffer l.buffer l.n × (length l.buffer ≡ length l.initial.buffer)
