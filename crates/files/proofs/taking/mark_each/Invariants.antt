use mathlib.Core.Path.{◌≡◌}
use lib.ListN.{length, drop}
use Rattle.volume.specs.Sat.{with_bits}
use Rattle.files.proofs.taking.mark_each.Given as goal

abbrev pub invariant-loop-s : goal.invariant-loop-s
invariant-loop-s l = (length l.sat ≡ length l.initial.sat) × (with_bits 1 l.initial.sat l.ss ≡ with_bits 1 l.sat (drop l.s-index l.ss))
