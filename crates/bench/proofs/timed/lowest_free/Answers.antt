use native.Mathlib.Omega.{arith}
use Rattle.bench.proofs.Answers.{table_fits, Took-not, no_room, too_few, Took-all}
use Rattle.bench.proofs.timed.lowest_free.Goals.{then-out-n-via-then-out-n, then-out-n-via-else-out-n+then-free_count-n}
use Rattle.bench.proofs.timed.lowest_free.Goals as goal

pub returns-in_default : goal.returns-in_default
returns-in_default g c = Took-not _ _ _ _ (rw c.in_default.is at c.table_of.ensures)

pub free_count-requires : goal.free_count-requires
free_count-requires g c = table_fits _ _ (rw c.in-Some.is at c.table_of.ensures).0

pub returns-then-out-n : goal.returns-then-out-n
returns-then-out-n g c =
    let s = rw c.in-Some.is at c.table_of.ensures in
    elim c.then-out-n.branch [
      | then-out-n-via-then-out-n w ↦ no_room _ _ _ _ (omega arith)
      | then-out-n-via-else-out-n+then-free_count-n w ↦ too_few _ _ _ _ (omega (arith, rw s.1 at w.free_count.ensures))
    ]

pub lowest_free-requires : goal.lowest_free-requires
lowest_free-requires g c =
    let s = rw c.in-Some.is at c.table_of.ensures in
    let e = rw s.1 at c.free_count.ensures in
    (table_fits _ _ s.0, rw s.1 (omega arith), omega arith)

pub returns : goal.returns
returns g c =
    let s = rw c.in-Some.is at c.table_of.ensures in
    let e = rw s.1 at c.free_count.ensures in
    Took-all _ _ _ _ s.0 (omega arith) (omega arith) _ (rw s.1 at c.lowest_free.ensures)
