use Rattle.std.proofs.Common.{sym, ◌∙◌}
use native.Mathlib.Omega.{arith}
use Rattle.bench.proofs.Answers.{table_fits, asked_of, asked-not, run_none, run_long}
use Rattle.bench.proofs.timed.lowest_run.Goals as goal

pub returns-in_default : goal.returns-in_default
returns-in_default g c = sym (asked-not _ _ (rw c.in_default.is at c.table_of.ensures) _)

pub returns-then-n-eq0 : goal.returns-then-n-eq0
returns-then-n-eq0 g c = sym (asked_of _ _ (rw c.in-Some.is at c.table_of.ensures).0 _ ∙ run_none _ _ _ (omega arith))

pub returns-then-n-gt-MOST_SECTORS : goal.returns-then-n-gt-MOST_SECTORS
returns-then-n-gt-MOST_SECTORS g c =
    let s = rw c.in-Some.is at c.table_of.ensures in
    let f = table_fits _ _ s.0 in
    sym (asked_of _ _ s.0 _ ∙ run_long _ _ _ (omega arith))

pub lowest_run-requires : goal.lowest_run-requires
lowest_run-requires g c = (table_fits _ _ (rw c.in-Some.is at c.table_of.ensures).0, omega arith, omega arith)

pub returns : goal.returns
returns g c =
    let s = rw c.in-Some.is at c.table_of.ensures in
    rw s.1 at c.lowest_run.ensures ∙ sym (asked_of _ _ s.0 _)
