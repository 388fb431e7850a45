use mathlib.Core.Path.{refl, ◌∙◌}
use Prim.Native.Nat.{◌+◌}
use native.Mathlib.Omega.{arith}
use lib.ListN.{get_or, drop}
use Rattle.text.specs.Packing.{shown, unpacked}
use Rattle.lists.proofs.Fronts.{Front-start, front_fits, Front-more, front_end}
use Rattle.text.proofs.UnpackingSteps.{unpacked_at, unpacked_end}
use Rattle.text.proofs.unpacking.unpack.Goals as goal

pub loop-b-init : goal.loop-b-init
loop-b-init c = (Front-start _ _, refl)

pub put_shown-n-requires : goal.put_shown-n-requires
put_shown-n-requires c =
    let l = c.loop-b in
    let s = c.args.stored.now in
    let later = unpacked (drop (l.b-index + 1) s) in
    front_fits _ _ _ _ _ l.invariant.0 (shown (get_or s l.b-index 0)) later _ (unpacked_at s l.b-index (omega arith)) (omega arith)

pub loop-b-preserved : goal.loop-b-preserved
loop-b-preserved c =
    let l = c.loop-b in
    let s = c.args.stored.now in
    (Front-more _ _ _ _ _ l.invariant.0 _ _ _ _ (unpacked_at s l.b-index (omega arith)) c.put_shown-n.ensures, c.put_shown-n.auto.buffer ∙ l.invariant.1)

pub returns : goal.returns
returns c =
    let l = c.loop-b in
    (front_end _ _ _ _ _ l.invariant.0 (unpacked_end c.args.stored.now l.b-index (omega arith))).1
