use mathlib.Core.Path.{sym, ◌∙◌}
use Rattle.ownership.proofs.AccessBlocks.{seg_start_at}
use Rattle.ownership.proofs.blocks.seg_start.Goals as goal

pub returns : goal.returns
returns c =
    (c.word_at.ensures.0 ∙ sym (seg_start_at c.args.f.now c.args.k c.requires.there), c.word_at.ensures.1)
