use Rattle.front.proofs.ServedCalls.{format_bad, format_done}
use Rattle.front.proofs.gateway.twynarvel_format.Goals as goal

pub returns-then-desk-ne-DESK_BYTES : goal.returns-then-desk-ne-DESK_BYTES
returns-then-desk-ne-DESK_BYTES c = format_bad _ _ _ _ _ c.if-desk-ne-DESK_BYTES.true c.number.ensures

pub returns : goal.returns
returns c =
    format_done _ _ _ _ c.format.result _ _ _ _ _ _ c.if-desk-ne-DESK_BYTES.false c.empty.ensures c.format.ensures c.keep.ensures.0
    c.number-2.ensures c.keep.ensures.1
