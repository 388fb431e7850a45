use mathlib.Core.Path.{sym, ◌∙◌}
use native.Mathlib.Omega.{arith}
use Rattle.std.proofs.lemmas.Result.{err_from_is_err_and}
use Rattle.ownership.proofs.OwnedRuns.{run_fits, owned_run, chain_fits, owned_chain, chain_sound}
use Rattle.ownership.proofs.ClaimsFollow.{Claims-fails, Claims-then}
use Rattle.ownership.proofs.owners.claim_entry.Goals as goal

pub claim_run-requires : goal.claim_run-requires
claim_run-requires c =
    let img = c.args.v.now.img.now in
    let e = c.args.e.now in
    let u = c.requires.2 in
    let es = c.start-s.ensures.0 in
    let w = sym c.contiguous.ensures ∙ c.if-contiguous.true in
    let en = c.size.ensures.0 in
    (omega arith, (let q = run_fits img e c.args.v.now.p.t c.args.v.now.located.long c.requires.1 u _ _ w es en in omega arith))

pub returns-then-contiguous : goal.returns-then-contiguous
returns-then-contiguous c =
    let img = c.args.v.now.img.now in
    let e = c.args.e.now in
    let u = c.requires.2 in
    let es = c.start-s.ensures.0 in
    let w = sym c.contiguous.ensures ∙ c.if-contiguous.true in
    let en = c.size.ensures.0 in
    rw (owned_run img e _ _ u w es en) c.claim_run.ensures

pub claim_run-requires-2 : goal.claim_run-requires-2
claim_run-requires-2 c =
    let img = c.args.v.now.img.now in
    let e = c.args.e.now in
    let u = c.requires.2 in
    let es = c.start-s.ensures.0 in
    let w = sym c.contiguous.ensures ∙ c.if-contiguous.false in
    (omega arith, (let q = chain_fits img e c.args.v.now.p.t c.args.v.now.located.long c.requires.1 u _ w es in omega arith))

pub returns-in_err-claim_run : goal.returns-in_err-claim_run
returns-in_err-claim_run c =
    let img = c.args.v.now.img.now in
    let e = c.args.e.now in
    let u = c.requires.2 in
    let es = c.start-s.ensures.0 in
    let w = sym c.contiguous.ensures ∙ c.if-contiguous.false in
    let p = err_from_is_err_and c.from_residual.result c.from_residual.ensures.1 in
    rw (owned_chain img e _ u w es, p.1) (Claims-fails _ (rw c.in_err-claim_run.was at c.claim_run-2.ensures))

pub sector-requires : goal.sector-requires
sector-requires c =
    let v = c.args.v.now in
    chain_fits v.img.now c.args.e.now v.p.t v.located.long c.requires.1 c.requires.2 _ (sym c.contiguous.ensures ∙ c.if-contiguous.false) c.start-s.ensures.0

pub claim_block-requires : goal.claim_block-requires
claim_block-requires c =
    let img = c.args.v.now.img.now in
    let e = c.args.e.now in
    let u = c.requires.2 in
    let es = c.start-s.ensures.0 in
    let w = sym c.contiguous.ensures ∙ c.if-contiguous.false in
    let q = chain_fits img e c.args.v.now.p.t c.args.v.now.located.long c.requires.1 u _ w es in
    let g = c.sector.ensures in
    (omega arith, c.args.v.now.located.high, rw g (chain_sound img e c.args.v.now.p.t c.args.v.now.located.long c.requires.1 u _ w es))

pub returns : goal.returns
returns c =
    let img = c.args.v.now.img.now in
    let e = c.args.e.now in
    let u = c.requires.2 in
    let es = c.start-s.ensures.0 in
    let w = sym c.contiguous.ensures
    ∙ c.if-contiguous.false in
    rw (owned_chain img e _ u w es)
    (Claims-then (rw c.in_ok-claim_run.was at c.claim_run-2.ensures)
    (rw c.sector.ensures at c.claim_block.ensures))
