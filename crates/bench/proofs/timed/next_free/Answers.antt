use Rattle.std.proofs.Common.{sym, ◌∙◌}
use Rattle.bench.proofs.Answers.{table_fits, asked_of, asked-not}
use Rattle.bench.proofs.timed.next_free.Goals as goal

pub returns-in_default : goal.returns-in_default
returns-in_default g c = sym (asked-not _ _ (rw c.in_default.is at c.table_of.ensures) _)

pub next_free-requires : goal.next_free-requires
next_free-requires g c = table_fits _ _ (rw c.in-Some.is at c.table_of.ensures).0

pub returns : goal.returns
returns g c =
    let s = rw c.in-Some.is at c.table_of.ensures in
    rw s.1 at c.next_free.ensures ∙ sym (asked_of _ _ s.0 _)
