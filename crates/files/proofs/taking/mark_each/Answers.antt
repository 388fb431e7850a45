use mathlib.Core.Path.{◌∙◌, sym}
use Prim.Native.Nat.{◌<◌}
use native.Mathlib.Omega.{arith}
use lib.ListN.{get_or}
use lib.Dec.{ltb}
use borrow.Author.Tests.{ltb-true}
use Rattle.numbers.specs.Numbers.{most_sectors}
use Rattle.lists.proofs.Lists.{all_at}
use Rattle.files.proofs.taking.TakingLoops.{marked_turn, marked_done}
use Rattle.files.proofs.taking.mark_each.Goals as goal

pub set_bit-requires : goal.set_bit-requires
set_bit-requires c =
    let l = c.loop-s in
    let b : get_or c.args.ss.now l.s-index 0 < most_sectors = ltb-true _ _ (all_at (λ x. ltb x most_sectors) c.args.ss.now l.s-index 0 c.requires.1 (omega arith)) in
    (l.invariant.0 ∙ c.requires.0, omega arith)

pub loop-s-preserved : goal.loop-s-preserved
loop-s-preserved c =
    let l = c.loop-s in (
      c.set_bit.auto.sat ∙ l.invariant.0,
      l.invariant.1
          ∙ marked_turn c.args.ss.now l.s-index 1 _ l.sat _ (omega arith) c.from.ensures c.set_bit.ensures,
    )

pub returns : goal.returns
returns c =
    let args = c.args in
    let l = c.loop-s in
    sym (l.invariant.1 ∙ marked_done args.ss.now l.s-index 1 l.sat c.loop-s-test.false)
