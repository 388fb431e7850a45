use native.Mathlib.Omega.{arith}
use Rattle.compaction.proofs.holders.HolderTable.{given_run}
use Rattle.compaction.proofs.holders.give_run.Goals as goal

pub returns : goal.returns
returns c = given_run c.args.k c.args.s c.args.n c.args.who.now _ (omega arith) (c.fill.ensures.after (λ y e. e))
