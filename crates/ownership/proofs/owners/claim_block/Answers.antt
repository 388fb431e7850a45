use mathlib.Core.Path.{refl, ap, ◌∙◌}
use mathlib.Core.List.{[]}
use Prim.Native.Nat.{◌≤◌, ◌<◌}
use native.Mathlib.Omega.{arith}
use borrow.Author.Rules.{rules}
use lib.ListN.{length}
use Rattle.ownership.specs.Blocks.{segment, pairs, sectors_of, segments}
use Rattle.std.proofs.lemmas.Result.{err_from_is_err_and}
use Rattle.ownership.proofs.ClaimsFollow.{Rest-fails, Rest-more, Rest-none}
use Rattle.ownership.proofs.BlockFacts.{block_facts}
use Rattle.ownership.proofs.OwnedRuns.{segment_fits, run_segment}
use Rattle.ownership.proofs.BlockTests.{pairs-length}
use Rattle.ownership.proofs.Pairs.{pair_start, pair_length}
use Rattle.ownership.proofs.owners.claim_block.Goals as goal

pub pairs-pair-items-requires : goal.pairs-pair-items-requires
pairs-pair-items-requires c = (search rules, (block_facts c.args.t c.args.f.now c.requires.2).few)

pub loop-pair-init : goal.loop-pair-init
unfolding sectors_of
loop-pair-init c = (refl, (λ r m q. q))

pub claim_run-requires : goal.claim_run-requires
claim_run-requires c =
    let l = c.loop-pair in
    let f = c.args.f.now in
    let ps = c.pairs-pair-items.ensures.is in
    let g : l.pair-index < length (pairs f) = omega (arith, ap length ps) in
    let h : l.pair-index < segments f = omega (arith, pairs-length f) in
    let st = pair_start f _ l.pair-index _ _ ps (omega arith) c.of-start.ensures.start in
    let ln = pair_length f _ l.pair-index _ _ ps (omega arith) c.of-start.ensures.length in
    (l.invariant.0 ∙ c.requires.0, (let q = segment_fits f l.pair-index _ _ h st ln c.args.t c.requires.2 in omega arith))

pub returns-in_err-claim_run : goal.returns-in_err-claim_run
returns-in_err-claim_run c =
    let l = c.loop-pair in
    let f = c.args.f.now in
    let ps = c.pairs-pair-items.ensures.is in
    let g : l.pair-index < length (pairs f) = omega (arith, ap length ps) in
    let h : l.pair-index < segments f = omega (arith, pairs-length f) in
    let st = pair_start f _ l.pair-index _ _ ps (omega arith) c.of-start.ensures.start in
    let ln = pair_length f _ l.pair-index _ _ ps (omega arith) c.of-start.ensures.length in
    let p = err_from_is_err_and c.from_residual.result c.from_residual.ensures.1 in
    rw p.1 (l.invariant.1 _ _ (Rest-fails segment (pairs f) [] g (rw (run_segment f l.pair-index _ _ h st ln, c.in_err-claim_run.was) at c.claim_run.ensures)))

pub loop-pair-preserved : goal.loop-pair-preserved
loop-pair-preserved c =
    let l = c.loop-pair in
    let f = c.args.f.now in
    let ps = c.pairs-pair-items.ensures.is in
    let g : l.pair-index < length (pairs f) = omega (arith, ap length ps) in
    let h : l.pair-index < segments f = omega (arith, pairs-length f) in
    let st = pair_start f _ l.pair-index _ _ ps (omega arith) c.of-start.ensures.start in
    let ln = pair_length f _ l.pair-index _ _ ps (omega arith) c.of-start.ensures.length in (
      c.claim_run.auto.marks ∙ l.invariant.0,
      (λ r m q. l.invariant.1 r m (Rest-more segment (pairs f) [] g (rw (run_segment f l.pair-index _ _ h st ln, c.in_ok-claim_run.was) at c.claim_run.ensures) q)),
    )

pub returns : goal.returns
returns c =
    let l = c.loop-pair in
    let f = c.args.f.now in
    let g : length (pairs f) ≤ l.pair-index = omega (arith, ap length c.pairs-pair-items.ensures.is) in
    l.invariant.1 _ _ (Rest-none segment (pairs f) [] g)
