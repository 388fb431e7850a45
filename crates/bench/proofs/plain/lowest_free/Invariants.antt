-- The loop's invariant: the first k of the n lowest free sectors are stored.
use Rattle.volume.specs.Sat.{is_free}
use Rattle.files.proofs.taking.LowestFound.{Found}
use Rattle.bench.proofs.plain.lowest_free.Given as goal

abbrev pub invariant-loop-k : goal.invariant-loop-k
invariant-loop-k l = Found (is_free l.sat) l.t l.n l.initial.out l.k l.from l.out
