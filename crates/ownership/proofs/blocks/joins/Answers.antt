use borrow.Author.Tests.{eq-eqb}
use Rattle.ownership.proofs.BlockWriters.{joins_none, joins_at}
use Rattle.ownership.proofs.blocks.joins.Goals as goal

pub returns-then-n-ne0 : goal.returns-then-n-ne0
returns-then-n-ne0 c =
    joins_at _ c.requires _ _ _ _ c.segments-n.ensures.0 c.if-n-ne0.true c.seg_start.ensures.0 c.seg_length.ensures.0

pub returns-else-n-ne0 : goal.returns-else-n-ne0
returns-else-n-ne0 c =
    rw (eq-eqb _ _ c.if-n-ne0.false) (joins_none _ c.requires _ _ c.segments-n.ensures.0 c.if-n-ne0.false)
