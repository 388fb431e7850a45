use mathlib.Core.Path.{refl, sym}
use native.Mathlib.Omega.{arith}
use lib.ListN.{length-set}
use Rattle.lists.specs.Lists.{range}
use Rattle.lists.proofs.Puts.{put_none}
use Rattle.files.proofs.map.MapFilled.{run_filled}
use Rattle.files.proofs.map.fill_run.Goals as goal

pub loop-i-init : goal.loop-i-init
unfolding range
loop-i-init c = (omega arith, sym (put_none c.args.at c.args.map.now), refl)

pub loop-i-preserved : goal.loop-i-preserved
loop-i-preserved c =
    let a = c.args in
    let l = c.loop-i in
    (omega arith, run_filled a.at a.s l.i a.map.now l.map (omega arith) l.invariant.1 l.invariant.2, simp length-set l.invariant.2)
