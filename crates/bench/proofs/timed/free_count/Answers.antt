use Rattle.std.proofs.Common.{sym, ◌∙◌}
use Rattle.bench.proofs.Answers.{table_fits, asked_of, asked-not}
use Rattle.bench.proofs.timed.free_count.Goals as goal

pub returns-in_default : goal.returns-in_default
returns-in_default g c = sym (asked-not _ _ (rw c.in_default.is at c.table_of.ensures) _)

pub free_count-requires : goal.free_count-requires
free_count-requires g c = table_fits _ _ (rw c.in-Some.is at c.table_of.ensures).0

pub returns : goal.returns
returns g c =
    let s = rw c.in-Some.is at c.table_of.ensures in
    rw s.1 at c.free_count.ensures ∙ sym (asked_of _ _ s.0 _)
