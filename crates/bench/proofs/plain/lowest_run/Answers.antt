use mathlib.Core.Path.{sym, ◌∙◌, ap}
use mathlib.Core.Bool.{not}
use native.Mathlib.Omega.{arith}
use borrow.Author.Rules.{rules}
use Rattle.lists.proofs.Ranges.{range_more}
use Rattle.volume.specs.Sat.{is_free}
use Rattle.volume.proofs.Searches.RunHunt.{None-over, lowest_at, lowest_None}
use Rattle.bench.proofs.plain.lowest_run.Goals.{then-marked, else-marked}
use Rattle.bench.proofs.plain.lowest_run.Goals as goal

pub loop-start-init : goal.loop-start-init
loop-start-init c = (search rules, search rules, search rules, (λ k h g. absurd (omega arith)), (λ k h. absurd (omega arith)))

pub returns-then-i-start : goal.returns-then-i-start
returns-then-i-start c =
    let l = c.loop-start in
    lowest_at _ _ _ _ (omega arith) (omega arith) l.invariant.4 (λ j p q. l.invariant.3 j p (omega arith))

pub loop-start-preserved : goal.loop-start-preserved
unfolding is_free
loop-start-preserved c =
    let l = c.loop-start in
    elim c.if-marked.branch [
      | then-marked w ↦
          let hit = ap not (sym c.marked.ensures ∙ w.if-marked.true) in
          rw w.start-is (omega arith, omega arith, omega arith, (λ k h g. absurd (omega arith)), None-over _ _ _ _ _ l.invariant.4 (omega arith) hit)
      | else-marked w ↦
          let miss = ap not (sym c.marked.ensures ∙ w.if-marked.false) in
          rw w.start-is (omega arith, omega arith, omega arith, range_more _ _ _ l.invariant.3 miss, l.invariant.4)
    ]

pub returns : goal.returns
returns c = lowest_None _ _ _ _ (omega arith) c.loop-start.invariant.4
