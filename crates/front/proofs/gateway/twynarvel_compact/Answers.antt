use mathlib.Core.Path.{refl, sym, subst, ◌∙◌}
use Prim.Native.Nat.{◌<◌}
use Rattle.desk.specs.Answers.{Outcome}
use Rattle.desk.specs.Calls.{done, closed_up_to}
use Rattle.front.specs.Code.Tallies.{tallied}
use Rattle.front.proofs.KeptDesks.{unpacked_good, unpacked_bad}
use Rattle.front.proofs.CompactReports.{tally_few, report_bad, report_done}
use Rattle.front.proofs.ServedCalls.{serve_bad, serve_kept}
use Rattle.front.proofs.gateway.twynarvel_compact.Goals as goal

pub returns-in_default : goal.returns-in_default
returns-in_default c =
    let bad = (unpacked_bad _ _ (sym c.unpacked.ensures ∙ c.in_default.is)) in
    (serve_bad _ _ _ _ bad c.number.ensures, report_bad _ _ _ _ bad)

pub write_report-requires : goal.write_report-requires
write_report-requires c = subst (λ (o : Outcome). tallied o.answer < 65536) (sym c.compact-a.ensures) (tally_few _ _)

pub returns : goal.returns
unfolding done closed_up_to
returns c =
    let good = unpacked_good _ _ (sym c.unpacked.ensures ∙ c.in-Ok.is) in (
      serve_kept _ _ _ c.compact-a.result _ _ _ _ (λ i. (c.type_inv.desk i).fits) good.0 good.1 refl c.compact-a.ensures c.number-2.ensures,
      report_done _ _ _ _ c.compact-a.result _ _ _ _ good.0 good.1 c.compact-a.ensures c.write_report.ensures,
    )
