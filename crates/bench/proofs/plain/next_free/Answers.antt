use mathlib.Core.Path.{◌≡◌, refl, sym, ap, ◌∙◌}
use mathlib.Core.Bool.{not}
use native.Mathlib.Omega.{arith}
use Rattle.lists.proofs.FirstFound.{first_yes, first_no, first_end}
use Rattle.volume.specs.Sat.{is_free}
use Rattle.bench.proofs.plain.next_free.Goals as goal

pub loop-i-init : goal.loop-i-init
loop-i-init c = (omega arith, refl)

pub returns-then-not-marked : goal.returns-then-not-marked
unfolding is_free
returns-then-not-marked c =
    let l = c.loop-i in
    sym (l.invariant.1 ∙ first_yes _ _ _ (omega arith) (ap not (sym c.marked.ensures) ∙ (ap not c.if-not-marked.true)))

pub loop-i-preserved : goal.loop-i-preserved
unfolding is_free
loop-i-preserved c =
    let l = c.loop-i in
    (omega arith, l.invariant.1 ∙ first_no _ _ _ (omega arith) (ap not (sym c.marked.ensures ∙ c.if-not-marked.false)))

pub returns : goal.returns
returns c =
    let l = c.loop-i in
    let z : c.max.result ≡ l.i = omega (arith, c.max.ensures) in
    z ∙ sym (l.invariant.1 ∙ first_end _ _ _ (omega arith))
