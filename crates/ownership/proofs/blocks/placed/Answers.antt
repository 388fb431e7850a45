use mathlib.Core.Path.{sym, ◌∙◌, ap}
use borrow.Author.Tests.{le-ltb}
use Rattle.ownership.specs.Blocks.{block_sound}
use Rattle.ownership.proofs.BlockTests.{placed-contiguous, placed_sequential, placed_out}
use Rattle.ownership.proofs.blocks.placed.Goals as goal

pub returns-then-contiguous : goal.returns-then-contiguous
returns-then-contiguous c =
    placed-contiguous _ _ _ c.requires.0 _ _
    c.requires.1
    (sym c.contiguous.ensures ∙ c.if-contiguous.true) c.start-s.ensures.0 c.size.ensures.0

pub returns-then-s-t : goal.returns-then-s-t
returns-then-s-t c =
    c.block_sound.ensures ∙ ap (block_sound _) c.sector_of.ensures
    ∙ placed_sequential _ _ _ c.requires.0 _
    c.requires.1
    (sym c.contiguous.ensures ∙ c.if-contiguous.false) c.start-s.ensures.0
    c.if-s-t.true

pub returns-else-s-t : goal.returns-else-s-t
returns-else-s-t c =
    rw (le-ltb _ _ c.if-s-t.false)
    (placed_out _ _ _ c.requires.0 _
    c.requires.1
    (sym c.contiguous.ensures ∙ c.if-contiguous.false) c.start-s.ensures.0 c.if-s-t.false)
