use mathlib.Core.Path.{◌≡◌, refl, sym, ◌∙◌, ap}
use Prim.Native.Nat.{◌<◌}
use native.Mathlib.Omega.{arith}
use lib.ListN.{length}
use Rattle.numbers.specs.Numbers.{most_sectors}
use Rattle.lists.proofs.Puts.{put_none}
use Rattle.ownership.specs.Blocks.{segments}
use Rattle.ownership.proofs.BlockFacts.{block_facts}
use Rattle.ownership.proofs.BlockTests.{pairs-length}
use Rattle.ownership.proofs.Pairs.{pair_start, pair_length}
use Rattle.files.proofs.map.MapFilled.{first_of, first_none, segment_ends, segment_room, length_more, fill_more, first_all, put-over}
use Rattle.files.proofs.map.fill_map.Goals as goal

pub pairs-pair-items-requires : goal.pairs-pair-items-requires
pairs-pair-items-requires c = (c.requires.0, (block_facts most_sectors c.args.f.now c.requires.1).few)

pub loop-pair-init : goal.loop-pair-init
loop-pair-init c =
    let a = c.args in
    (omega arith, rw (first_none a.f.now), sym (rw (first_none a.f.now) (put_none 0 a.map.now)), refl)

pub fill_run-requires : goal.fill_run-requires
fill_run-requires c =
    let l = c.loop-pair in
    let f = c.args.f.now in
    let ps = c.pairs-pair-items.ensures.is in
    let h : l.pair-index < segments f = omega (arith, ap length ps, pairs-length f) in
    let st = pair_start f _ l.pair-index _ _ ps (omega arith) c.of-start.ensures.start in
    let ln = pair_length f _ l.pair-index _ _ ps (omega arith) c.of-start.ensures.length in (
      omega (arith, segment_room most_sectors f c.requires.1 (length c.args.map.now) l.pair-index c.requires.2 h),
      omega (arith, segment_ends most_sectors f c.requires.1 l.pair-index h),
    )

pub overflow_add-at : goal.overflow_add-at
overflow_add-at c =
    let l = c.loop-pair in
    let f = c.args.f.now in
    let ps = c.pairs-pair-items.ensures.is in
    let h : l.pair-index < segments f = omega (arith, ap length ps, pairs-length f) in
    let ln = pair_length f _ l.pair-index _ _ ps (omega arith) c.of-start.ensures.length in
    omega (arith, segment_room most_sectors f c.requires.1 (length c.args.map.now) l.pair-index c.requires.2 h)

pub loop-pair-preserved : goal.loop-pair-preserved
loop-pair-preserved c =
    let l = c.loop-pair in
    let a = c.args in
    let f = a.f.now in
    let ps = c.pairs-pair-items.ensures.is in
    let h : l.pair-index < segments f = omega (arith, ap length ps, pairs-length f) in
    let st = pair_start f _ l.pair-index _ _ ps (omega arith) c.of-start.ensures.start in
    let ln = pair_length f _ l.pair-index _ _ ps (omega arith) c.of-start.ensures.length in
    let r = segment_room most_sectors f c.requires.1 (length a.map.now) l.pair-index c.requires.2 h in (
      omega arith,
      omega (arith, length_more f l.pair-index h),
      fill_more f a.map.now l.map _ l.pair-index l.at _ _ h l.invariant.1 st ln (omega arith) l.invariant.2 c.fill_run.ensures,
      c.fill_run.auto.map ∙ l.invariant.3,
    )

pub returns : goal.returns
returns c =
    let a = c.args in
    let l = c.loop-pair in
    let e : l.pair-index ≡ segments a.f.now = omega (arith, ap length c.pairs-pair-items.ensures.is, pairs-length a.f.now) in
    let q : first_of a.f.now l.pair-index ≡ _ = ap (first_of a.f.now) e ∙ first_all a.f.now in
    (l.invariant.1 ∙ ap length q, l.invariant.2 ∙ rw q (put-over _ _))
