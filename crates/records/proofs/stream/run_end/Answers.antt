use mathlib.Core.Path.{◌≡◌, refl, sym, ◌∙◌}
use lib.ListN.{length}
use native.Mathlib.Omega.{arith}
use Rattle.lists.proofs.FirstFound.{first_yes, first_no, first_end}
use Rattle.records.specs.Code.Runs.{run_end}
use Rattle.records.proofs.StreamRuns.{breaks_here, breaks_not}
use Rattle.records.proofs.stream.run_end.Goals as goal

pub loop-j-init : goal.loop-j-init
unfolding run_end
loop-j-init c = (omega arith, omega arith, refl)

pub returns-then-from : goal.returns-then-from
returns-then-from c =
    let l = c.loop-j in
    let a = c.args in
    (sym (l.invariant.2 ∙ first_yes _ l.j _ (omega arith) (breaks_here a.map.now l.j (λ h. c.if-from.true (omega arith)))), l.invariant.0)

pub loop-j-preserved : goal.loop-j-preserved
loop-j-preserved c =
    let l = c.loop-j in
    let a = c.args in
    (omega arith, omega arith, l.invariant.2 ∙ first_no _ l.j _ (omega arith) (breaks_not a.map.now l.j (omega arith)))

pub returns : goal.returns
returns c =
    let l = c.loop-j in
    let z : length c.args.map.now ≡ l.j = omega arith in
    (z ∙ sym (l.invariant.2 ∙ first_end _ l.j _ (omega arith)), omega arith)
