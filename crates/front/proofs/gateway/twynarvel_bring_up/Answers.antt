use Rattle.front.proofs.ServedCalls.{bring_up_done}
use Rattle.front.proofs.gateway.twynarvel_bring_up.Goals as goal

pub returns : goal.returns
returns c =
    bring_up_done _ _ c.bring_up.result _ _ _ _ c.empty.ensures c.bring_up.ensures c.number.ensures
