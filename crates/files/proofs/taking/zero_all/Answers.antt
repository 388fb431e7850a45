use mathlib.Core.Path.{◌∙◌, sym}
use native.Mathlib.Omega.{arith}
use Rattle.files.proofs.taking.TakingLoops.{zeroed_turn, zeroed_done}
use Rattle.files.proofs.taking.zero_all.Goals as goal

pub loop-s-preserved : goal.loop-s-preserved
loop-s-preserved c =
    let l = c.loop-s in (
      c.zero_run.auto.img ∙ l.invariant.0,
      l.invariant.1
          ∙ zeroed_turn c.args.ss.now l.s-index _ l.img _ (omega arith) c.from.ensures c.zero_run.ensures,
    )

pub returns : goal.returns
returns c =
    let args = c.args in
    let l = c.loop-s in
    sym (l.invariant.1 ∙ zeroed_done args.ss.now l.s-index l.img c.loop-s-test.false)
