use Rattle.std.proofs.Common.{◌≤◌, ◌<◌, length, ap, rules}
use native.Mathlib.Omega.{arith}
use Rattle.ownership.specs.Blocks.{pairs, sectors_of, segments}
use Rattle.ownership.proofs.BlockTests.{pairs-length}
use Rattle.ownership.proofs.OwnedRuns.{run_segment}
use Rattle.ownership.proofs.Pairs.{pair_start, pair_length}
use Rattle.compaction.proofs.holders.SectorNumber.{number_here, number_later, number_end}
use Rattle.compaction.proofs.holders.number_of.Goals.{else-start-h-via-then-start-h+else-h-start, else-start-h-via-else-start-h}
use Rattle.compaction.proofs.holders.number_of.Goals as goal

pub pairs-pair-items-requires : goal.pairs-pair-items-requires
pairs-pair-items-requires c = (search rules, c.requires)

pub loop-pair-init : goal.loop-pair-init
unfolding sectors_of
loop-pair-init c = (omega arith, omega arith)

pub returns-then-h-start : goal.returns-then-h-start
returns-then-h-start c =
    let l = c.loop-pair in
    let f = c.args.f.now in
    let ps = c.pairs-pair-items.ensures.is in
    let g : l.pair-index < length (pairs f) = omega (arith, ap length ps) in
    let h : l.pair-index < segments f = omega (arith, pairs-length f) in
    let st = pair_start f _ l.pair-index _ _ ps (omega arith) c.of-start.ensures.start in
    let ln = pair_length f _ l.pair-index _ _ ps (omega arith) c.of-start.ensures.length in
    let q = number_here c.args.h (pairs f) l.pair-index _ _ g (run_segment f l.pair-index _ _ h st ln) (omega arith) (omega arith) in
    omega (arith, q, l.invariant.1)

pub loop-pair-preserved : goal.loop-pair-preserved
loop-pair-preserved c =
    let l = c.loop-pair in
    let f = c.args.f.now in
    let ps = c.pairs-pair-items.ensures.is in
    let g : l.pair-index < length (pairs f) = omega (arith, ap length ps) in
    let h : l.pair-index < segments f = omega (arith, pairs-length f) in
    let st = pair_start f _ l.pair-index _ _ ps (omega arith) c.of-start.ensures.start in
    let ln = pair_length f _ l.pair-index _ _ ps (omega arith) c.of-start.ensures.length in
    let q = number_later c.args.h (pairs f) l.pair-index _ _ g (run_segment f l.pair-index _ _ h st ln) (λ a b. elim c.else-start-h.branch [
      | else-start-h-via-then-start-h+else-h-start w ↦ omega arith
      | else-start-h-via-else-start-h w ↦ omega arith
    ]) in
    (omega arith, omega (arith, q, l.invariant.1))

pub returns : goal.returns
returns c =
    let l = c.loop-pair in
    let f = c.args.f.now in
    let g : length (pairs f) ≤ l.pair-index = omega (arith, ap length c.pairs-pair-items.ensures.is) in
    omega (arith, number_end c.args.h (pairs f) l.pair-index g, l.invariant.1)
