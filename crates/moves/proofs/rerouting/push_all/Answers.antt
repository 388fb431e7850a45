use Rattle.std.proofs.Common.{◌≡◌, ◌<◌, length, true, false, ap, is_ok, rules}
use native.Mathlib.Omega.{arith}
use Rattle.numbers.specs.Numbers.{most_sectors}
use Rattle.ownership.specs.Blocks.{segments}
use Rattle.ownership.proofs.BlockFacts.{block_facts}
use Rattle.ownership.proofs.BlockTests.{pairs-length}
use Rattle.ownership.proofs.Pairs.{pair_start, pair_length}
use Rattle.files.proofs.map.MapFilled.{first_none, length_more, segment_ends}
use Rattle.moves.proofs.rerouting.RunsPushed.{takes_then, failed, passed, with_below, pushed_none, pushed_more, pushed_fails, pushed_all}
use Rattle.moves.proofs.rerouting.push_all.Goals as goal

pub pairs-pair-items-requires : goal.pairs-pair-items-requires
pairs-pair-items-requires c = (search rules, (block_facts most_sectors c.args.f.now c.requires.block_sound).few)

pub loop-pair-init : goal.loop-pair-init
loop-pair-init c = (
  rw (first_none c.args.f.now),
  omega arith,
  c.requires.takes,
  pushed_none c.args.f.now c.args.i c.args.q _ c.requires.takes.shaped (λ j. (c.type_inv.g j).fits),
)

pub push_segment-requires : goal.push_segment-requires
push_segment-requires c =
    let l = c.loop-pair in
    let f = c.args.f.now in
    let ps = c.pairs-pair-items.ensures.is in
    let h : l.pair-index < segments f = omega (arith, ap length ps, pairs-length f) in
    let st = pair_start f _ l.pair-index _ _ ps (omega arith) c.of-start.ensures.start in
    let ln = pair_length f _ l.pair-index _ _ ps (omega arith) c.of-start.ensures.length in
    (l.invariant.2, omega (arith, segment_ends most_sectors f c.requires.block_sound l.pair-index h, st, ln), c.requires.below)

pub returns-in_err-push_segment : goal.returns-in_err-push_segment
returns-in_err-push_segment c =
    let l = c.loop-pair in
    let f = c.args.f.now in
    let ps = c.pairs-pair-items.ensures.is in
    let h : l.pair-index < segments f = omega (arith, ap length ps, pairs-length f) in
    let st = pair_start f _ l.pair-index _ _ ps (omega arith) c.of-start.ensures.start in
    let ln = pair_length f _ l.pair-index _ _ ps (omega arith) c.of-start.ensures.length in
    let k : is_ok c.from_residual.result ≡ false = search rules in
    rw k
    (pushed_fails f c.args.i c.args.q _ c.requires.takes.shaped l.pair-index l.at _ _ h l.invariant.0 st ln
    l.g l.invariant.3 _ _ (failed c.in_err-push_segment.was c.push_segment.ensures))

pub loop-pair-preserved : goal.loop-pair-preserved
loop-pair-preserved c =
    let l = c.loop-pair in
    let f = c.args.f.now in
    let ps = c.pairs-pair-items.ensures.is in
    let h : l.pair-index < segments f = omega (arith, ap length ps, pairs-length f) in
    let st = pair_start f _ l.pair-index _ _ ps (omega arith) c.of-start.ensures.start in
    let ln = pair_length f _ l.pair-index _ _ ps (omega arith) c.of-start.ensures.length in
    let fits = segment_ends most_sectors f c.requires.block_sound l.pair-index h in
    let below = with_below l.at c.of-start.result.start c.of-start.result.length c.args.i c.args.q (omega (arith, st, ln)) c.requires.below in
    let done = passed c.in_ok-push_segment.was c.push_segment.ensures in (
      omega (arith, length_more f l.pair-index h, ln),
      omega arith,
      takes_then l.g l.invariant.2 _ _ below done,
      pushed_more f c.args.i c.args.q _ c.requires.takes.shaped l.pair-index l.at _ _ h l.invariant.0 st ln l.g l.invariant.3 true _ done,
    )

pub returns : goal.returns
returns c =
    let l = c.loop-pair in
    let f = c.args.f.now in
    let g : l.pair-index ≡ segments f = omega (arith, ap length c.pairs-pair-items.ensures.is, pairs-length f) in
    pushed_all f c.args.i c.args.q _ c.requires.takes.shaped l.pair-index l.g g l.invariant.3
