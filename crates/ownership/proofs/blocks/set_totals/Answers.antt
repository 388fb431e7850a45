use mathlib.Core.Path.{◌∙◌}
use borrow.Author.Rules.{rules}
use Rattle.ownership.proofs.BlockWriters.{wrote_totals}
use Rattle.ownership.proofs.blocks.set_totals.Goals as goal

pub returns : goal.returns
returns c =
    wrote_totals _ c.requires.0 (λ i. search rules) _ _ _
    (c.put_long.ensures ∙ rw c.put_word.ensures)
