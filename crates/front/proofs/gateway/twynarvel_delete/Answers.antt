use mathlib.Core.Path.{refl, sym, ◌∙◌}
use Rattle.desk.specs.Calls.{done, quietly}
use Rattle.front.proofs.KeptDesks.{unpacked_good, unpacked_bad}
use Rattle.front.proofs.ServedCalls.{serve_bad, serve_kept}
use Rattle.front.proofs.gateway.twynarvel_delete.Goals as goal

pub returns-in_default : goal.returns-in_default
returns-in_default c =
    serve_bad _ _ _ _ (unpacked_bad _ _ (sym c.unpacked.ensures ∙ c.in_default.is)) c.number.ensures

pub returns : goal.returns
unfolding done quietly
returns c =
    let good = unpacked_good _ _ (sym c.unpacked.ensures ∙ c.in-Ok.is) in
    serve_kept _ _ _ c.delete.result _ _ _ _ (λ i. (c.type_inv.desk i).fits) good.0 good.1 refl c.delete.ensures c.number-2.ensures
