use Rattle.std.proofs.lemmas.Result.{err_from_is_err_and}
use Rattle.ownership.proofs.ClaimsFollow.{Claims-fails, Claims-then}
use Rattle.ownership.proofs.OwnedRuns.{system_runs}
use Rattle.ownership.proofs.owners.claim_system.Goals as goal

pub returns-in_err-claim_run : goal.returns-in_err-claim_run
returns-in_err-claim_run c =
    let p = err_from_is_err_and c.from_residual.result c.from_residual.ensures.1 in
    rw (system_runs _, p.1)
    (Claims-fails _ (rw c.in_err-claim_run.was at c.claim_run.ensures))

pub returns-in_err-claim_run-2 : goal.returns-in_err-claim_run-2
returns-in_err-claim_run-2 c =
    let p = err_from_is_err_and c.from_residual-in_err-claim_run-2.result c.from_residual-in_err-claim_run-2.ensures.1 in
    rw (system_runs _, p.1)
    (Claims-then (rw c.in_ok-claim_run.was at c.claim_run.ensures)
    (Claims-fails _ (rw c.in_err-claim_run-2.was at c.claim_run-2.ensures)))

pub returns-in_err-claim_run-3 : goal.returns-in_err-claim_run-3
returns-in_err-claim_run-3 c =
    let p = err_from_is_err_and c.from_residual-in_err-claim_run-3.result c.from_residual-in_err-claim_run-3.ensures.1 in
    rw (system_runs _, p.1)
    (Claims-then (rw c.in_ok-claim_run.was at c.claim_run.ensures)
    (Claims-then (rw c.in_ok-claim_run-2.was at c.claim_run-2.ensures)
    (Claims-fails _ (rw c.in_err-claim_run-3.was at c.claim_run-3.ensures))))

pub returns : goal.returns
returns c =
    rw (system_runs _)
    (Claims-then (rw c.in_ok-claim_run.was at c.claim_run.ensures)
    (Claims-then (rw c.in_ok-claim_run-2.was at c.claim_run-2.ensures)
    (Claims-then (rw c.in_ok-claim_run-3.was at c.claim_run-3.ensures)
    c.claim_run-4.ensures)))
