use mathlib.Core.Path.{◌≡◌, sym, ◌∙◌}
use native.Mathlib.Omega.{arith}
use Rattle.ownership.specs.Blocks.{pairs}
use Rattle.ownership.proofs.AccessBlocks.{length-pairs}
use Rattle.files.proofs.taking.TakingLoops.{counted_one, counted_none, Counted-none, Counted-few, Counted-more}
use Rattle.files.proofs.taking.segments_with.Goals as goal
use Rattle.files.proofs.taking.segments_with.Goals.{then-ne, else-ne}

pub loop-s-init : goal.loop-s-init
loop-s-init c =
    Counted-none (pairs c.args.f.now) c.args.ss.now _ _ (c.segments-n.ensures.0 ∙ sym (length-pairs _ c.requires.0)) c.next_after-next.ensures

pub overflow_add-n : goal.overflow_add-n
overflow_add-n c =
    let l = c.loop-s in
    omega (arith, Counted-few (pairs c.args.f.now) c.args.ss.now l.s-index l.n l.next l.invariant, length-pairs c.args.f.now c.requires.0, c.requires.0.few)

pub loop-s-preserved : goal.loop-s-preserved
loop-s-preserved c =
    let l = c.loop-s in
    let m : c.if-ne.n ≡ _ = elim c.if-ne.branch [
      | then-ne w ↦ counted_one _ _ l.n _ c.ne.ensures w.if-ne.true w.n-is
      | else-ne w ↦ counted_none _ _ l.n _ c.ne.ensures w.if-ne.false w.n-is
    ] in
    Counted-more (pairs c.args.f.now) c.args.ss.now l.s-index l.n l.next _ _ l.invariant (omega arith) c.from-s.ensures m
