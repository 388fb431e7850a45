use Rattle.moves.proofs.relocation.MoveSteps.{wrote_move}
use Rattle.moves.proofs.relocation.write_move.Goals as goal

pub returns : goal.returns
returns c =
    let copied = c.copy_sector.ensures in
    wrote_move _ _ _ _ _ _ c.requires _ _ _ copied c.swap_in.ensures c.put_sector.ensures
