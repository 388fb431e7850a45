use Rattle.std.proofs.Common.{◌∙◌}
use native.Mathlib.Omega.{arith}
use Rattle.bench.proofs.Answers.{only_sector, table_yes, not_long, too_many}
use Rattle.bench.proofs.timed.table_of.Goals.{else-sat-eq256-via-then-sat-eq256+else-t-le-MOST_SECTORS, else-sat-eq256-via-else-sat-eq256}
use Rattle.bench.proofs.timed.table_of.Goals as goal

pub returns-then-t-le-MOST_SECTORS : goal.returns-then-t-le-MOST_SECTORS
returns-then-t-le-MOST_SECTORS c = (table_yes _ _ (omega arith) (omega arith), c.sector_of.ensures ∙ only_sector _ (omega arith))

pub returns-else-sat-eq256 : goal.returns-else-sat-eq256
returns-else-sat-eq256 c = elim c.else-sat-eq256.branch [
  | else-sat-eq256-via-then-sat-eq256+else-t-le-MOST_SECTORS w ↦ too_many _ _ (omega arith)
  | else-sat-eq256-via-else-sat-eq256 w ↦ not_long _ _ (λ e. omega arith)
]
