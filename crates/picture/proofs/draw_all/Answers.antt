use native.Mathlib.Omega.{arith}
use Rattle.picture.proofs.SectorsDrawn.{drawn_none, drawn_more, drawn_all}
use Rattle.picture.proofs.draw_all.Goals as goal

pub loop-x-init : goal.loop-x-init
loop-x-init c = drawn_none _ _

pub loop-x-preserved : goal.loop-x-preserved
loop-x-preserved c =
    let l = c.loop-x in
    drawn_more _ _ l.out l.x _ c.letter_at.ensures (omega arith) l.invariant

pub returns : goal.returns
returns c =
    let l = c.loop-x in
    drawn_all c.args.v.now.img.now _ l.out l.x (omega (arith, c.args.v.now.located.is_t)) l.invariant
