use mathlib.Core.Path.{◌∙◌}
use Rattle.front.proofs.AnsweredBlocks.{Answer-written}
use Rattle.front.proofs.blocks.write_answer.Goals as goal

pub returns : goal.returns
returns c =
    c.put_long.ensures
    ∙ Answer-written c.args.a c.args.block.now _ _ c.requires c.status_of.ensures c.moved_of.ensures
