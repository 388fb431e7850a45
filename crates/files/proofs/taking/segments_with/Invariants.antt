-- The loop's invariant: n segments, and the sector that would follow, after k sectors more.
use Rattle.ownership.specs.Blocks.{pairs}
use Rattle.files.proofs.taking.TakingLoops.{Counted}
use Rattle.files.proofs.taking.segments_with.Given as goal

abbrev pub invariant-loop-s : goal.invariant-loop-s
invariant-loop-s l = Counted (pairs l.f) l.ss l.s-index l.n l.next
