use Rattle.std.proofs.Common.{rules}
use Rattle.front.proofs.ServedCalls.{served_call}
use Rattle.front.proofs.gateway.twynarvel_close.Goals as goal

pub returns : goal.returns
returns c = served_call _ _ _ _ _ _ _ (λ r p. search rules) c.serve.ensures.bad c.serve.ensures.good c.number.ensures
