use mathlib.Core.Path.{◌∙◌}
use borrow.Author.Rules.{rules}
use Rattle.ownership.proofs.BlockWriters.{wrote_new}
use Rattle.ownership.proofs.blocks.open_segment.Goals as goal

pub returns : goal.returns
returns c =
    wrote_new _ c.requires.0 (λ i. search rules) _ _ _ _ c.segments-k.ensures.0 c.requires.1
    (c.put_word-3.ensures ∙ rw (c.put_word-2.ensures, c.put_word.ensures))
