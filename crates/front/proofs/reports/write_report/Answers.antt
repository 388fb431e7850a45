use mathlib.Core.Path.{◌≡◌, ap, sym, ◌∙◌}
use Rattle.std.proofs.Common.{rules}
use Rattle.std.specs.Prelude.{Ok}
use Rattle.desk.specs.Answers.{Answer}
use Rattle.desk.specs.declared.Report.TheVariants.{Compacted}
use Rattle.front.specs.Front.{reported}
use Rattle.front.proofs.CompactReports.{report_written}
use Rattle.front.proofs.reports.write_report.Goals as goal

pub returns-then-report-eq-REPORT_BYTES : goal.returns-then-report-eq-REPORT_BYTES
returns-then-report-eq-REPORT_BYTES c =
    let q : c.args.a ≡ Ok (Compacted c.in-Ok-Compacted.moved c.in-Ok-Compacted.ending) = search rules in
    report_written c.args.report.now _ _ _ c.in-Ok-Compacted.ending c.if-report-eq-REPORT_BYTES.true c.ending_number.ensures c.put_word.ensures
    ∙ sym (ap (λ (x : Answer). reported x c.args.report.now) q)
