use mathlib.Core.Path.{sym, ◌∙◌}
use native.Mathlib.Omega.{arith}
use Rattle.ownership.proofs.BlockWriters.{joins_some, room_new}
use Rattle.ownership.proofs.Segments.{extended_on, extended_new}
use Rattle.ownership.proofs.blocks.extend.Goals as goal

pub lengthen-requires : goal.lengthen-requires
lengthen-requires c =
    (c.requires.shaped, joins_some _ c.requires.shaped _ (sym c.joins.ensures ∙ c.if-joins.true), omega (arith, c.requires.short))

pub returns-then-joins : goal.returns-then-joins
returns-then-joins c = rw (extended_on _ _ (sym c.joins.ensures ∙ c.if-joins.true)) c.lengthen.ensures

pub open_segment-requires : goal.open_segment-requires
open_segment-requires c =
    (c.requires.shaped, room_new _ c.requires.shaped _ (sym c.joins.ensures ∙ c.if-joins.false) c.requires.room, c.requires.number, omega arith)

pub returns-else-joins : goal.returns-else-joins
returns-else-joins c =
    rw (extended_new _ _ (sym c.joins.ensures ∙ c.if-joins.false))
    c.open_segment.ensures
