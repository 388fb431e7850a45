-- The loop's invariant: the table says who has each sector, of the slots from k on.
use Rattle.compaction.specs.Code.Holders.{HoldersFrom}
use Rattle.compaction.proofs.holders.fill_holders.Given as goal

abbrev pub invariant-loop-k : goal.invariant-loop-k
invariant-loop-k l = HoldersFrom l.v.img.now l.k l.who
