use mathlib.Core.Path.{refl, ap, ◌∙◌, sym}
use Prim.Native.Nat.{◌≤◌, ◌<◌}
use native.Mathlib.Omega.{arith}
use borrow.Author.Rules.{rules}
use lib.ListN.{length}
use Rattle.ownership.specs.Blocks.{pairs, sectors_of, segments}
use Rattle.ownership.proofs.BlockFacts.{block_facts}
use Rattle.ownership.proofs.OwnedRuns.{segment_fits, run_segment}
use Rattle.ownership.proofs.Freeing.{free_more, free_end}
use Rattle.ownership.proofs.BlockTests.{pairs-length}
use Rattle.ownership.proofs.Pairs.{pair_start, pair_length}
use Rattle.ownership.proofs.owners.free_segments.Goals as goal

pub pairs-pair-items-requires : goal.pairs-pair-items-requires
pairs-pair-items-requires c = (search rules, (block_facts c.args.t c.args.f.now c.requires.2).few)

pub loop-pair-init : goal.loop-pair-init
unfolding sectors_of
loop-pair-init c = (refl, refl)

pub set_run-requires : goal.set_run-requires
set_run-requires c =
    let l = c.loop-pair in
    let f = c.args.f.now in
    let ps = c.pairs-pair-items.ensures.is in
    let g : l.pair-index < length (pairs f) = omega (arith, ap length ps) in
    let h : l.pair-index < segments f = omega (arith, pairs-length f) in
    let st = pair_start f _ l.pair-index _ _ ps (omega arith) c.of-start.ensures.start in
    let ln = pair_length f _ l.pair-index _ _ ps (omega arith) c.of-start.ensures.length in
    (l.invariant.0 ∙ c.requires.0, (let q = segment_fits f l.pair-index _ _ h st ln c.args.t c.requires.2 in omega arith))

pub loop-pair-preserved : goal.loop-pair-preserved
loop-pair-preserved c =
    let l = c.loop-pair in
    let f = c.args.f.now in
    let ps = c.pairs-pair-items.ensures.is in
    let g : l.pair-index < length (pairs f) = omega (arith, ap length ps) in
    let h : l.pair-index < segments f = omega (arith, pairs-length f) in
    let st = pair_start f _ l.pair-index _ _ ps (omega arith) c.of-start.ensures.start in
    let ln = pair_length f _ l.pair-index _ _ ps (omega arith) c.of-start.ensures.length in
    (c.set_run.auto.sat ∙ l.invariant.0, l.invariant.1 ∙ free_more 0 _ (pairs f) l.pair-index _ g (run_segment f l.pair-index _ _ h st ln) ∙ rw c.set_run.ensures)

pub returns : goal.returns
returns c =
    let l = c.loop-pair in
    let f = c.args.f.now in
    let g : length (pairs f) ≤ l.pair-index = omega (arith, ap length c.pairs-pair-items.ensures.is) in
    sym (l.invariant.1 ∙ free_end 0 _ (pairs f) l.pair-index g)
