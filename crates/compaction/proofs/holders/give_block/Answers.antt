use Rattle.std.proofs.Common.{◌≤◌, ◌<◌, length, refl, sym, ap, ◌∙◌, rules}
use native.Mathlib.Omega.{arith}
use Rattle.ownership.specs.Blocks.{pairs, sectors_of, segments}
use Rattle.ownership.proofs.BlockFacts.{block_facts}
use Rattle.ownership.proofs.BlockTests.{pairs-length}
use Rattle.ownership.proofs.OwnedRuns.{segment_fits, run_segment}
use Rattle.ownership.proofs.Pairs.{pair_start, pair_length}
use Rattle.compaction.proofs.holders.HolderTable.{segments_more, segments_end}
use Rattle.compaction.proofs.holders.give_block.Goals as goal

pub pairs-pair-items-requires : goal.pairs-pair-items-requires
pairs-pair-items-requires c = (search rules, (block_facts c.args.t c.args.f.now c.requires.1).few)

pub loop-pair-init : goal.loop-pair-init
unfolding sectors_of
loop-pair-init c = refl

pub give_run-requires : goal.give_run-requires
give_run-requires c =
    let l = c.loop-pair in
    let f = c.args.f.now in
    let ps = c.pairs-pair-items.ensures.is in
    let h : l.pair-index < segments f = omega (arith, ap length ps, pairs-length f) in
    let st = pair_start f _ l.pair-index _ _ ps (omega arith) c.of-start.ensures.start in
    let ln = pair_length f _ l.pair-index _ _ ps (omega arith) c.of-start.ensures.length in
    let q = segment_fits f l.pair-index _ _ h st ln c.args.t c.requires.1 in
    omega arith

pub loop-pair-preserved : goal.loop-pair-preserved
loop-pair-preserved c =
    let l = c.loop-pair in
    let f = c.args.f.now in
    let ps = c.pairs-pair-items.ensures.is in
    let g : l.pair-index < length (pairs f) = omega (arith, ap length ps) in
    let h : l.pair-index < segments f = omega (arith, pairs-length f) in
    let st = pair_start f _ l.pair-index _ _ ps (omega arith) c.of-start.ensures.start in
    let ln = pair_length f _ l.pair-index _ _ ps (omega arith) c.of-start.ensures.length in
    rw c.give_run.ensures (sym (segments_more _ (pairs f) l.pair-index _ _ g (run_segment f l.pair-index _ _ h st ln))) ∙ l.invariant

pub returns : goal.returns
returns c =
    let l = c.loop-pair in
    let f = c.args.f.now in
    let g : length (pairs f) ≤ l.pair-index = omega (arith, ap length c.pairs-pair-items.ensures.is) in
    sym (segments_end _ (pairs f) l.pair-index _ g) ∙ l.invariant
