use Rattle.std.proofs.lemmas.Result.{err_from_is_err_and}
use Rattle.ownership.proofs.ClaimsFollow.{Claims-fails, Claims-then}
use Rattle.ownership.proofs.OwnersSound.{fresh_made, all_owned_lem}
use Rattle.ownership.proofs.owners.claim_all.Goals as goal

pub returns-in_err-claim_system : goal.returns-in_err-claim_system
returns-in_err-claim_system c =
    let u = c.args.u.now in
    let f = fresh_made _ _ _ c.requires.1 c.set_run.ensures in
    let p = err_from_is_err_and c.from_residual.result c.from_residual.ensures.1 in
    rw (all_owned_lem u.volume.img.now u.volume.p u.volume.located c.requires.2, p.1) (Claims-fails _ (rw (f, c.in_err-claim_system.was) at c.claim_system.ensures))

pub returns : goal.returns
returns c =
    let u = c.args.u.now in
    let f = fresh_made _ _ _ c.requires.1 c.set_run.ensures in
    rw (all_owned_lem u.volume.img.now u.volume.p u.volume.located c.requires.2) (Claims-then (rw (f, c.in_ok-claim_system.was) at c.claim_system.ensures)
    c.claim_entries.ensures)
