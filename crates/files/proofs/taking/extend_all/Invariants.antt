use mathlib.Core.Path.{◌≡◌}
use Prim.Native.Nat.{◌≤◌}
use lib.ListN.{length, take}
use Rattle.ownership.specs.Blocks.{total, stream_length, pairs, extended_by, block_of}
use Rattle.files.proofs.taking.extend_all.Given as goal

abbrev pub invariant-loop-s : goal.invariant-loop-s
invariant-loop-s l = (l.s-index ≤ length l.ss) × (l.f ≡ block_of (extended_by (pairs l.initial.f) (take l.s-index l.ss)) (total l.initial.f) (stream_length l.initial.f)) × (length l.f ≡ length l.initial.f)
