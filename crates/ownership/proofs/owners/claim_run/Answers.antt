use mathlib.Core.Path.{sym, ◌∙◌}
use Prim.Native.Nat.{◌+◌, ◌/◌}
use native.Mathlib.Omega.{arith}
use borrow.Author.Rules.{rules}
use Rattle.std.proofs.lemmas.Result.{err_from_is_err_and}
use Rattle.ownership.proofs.ClaimedRuns.{before_fails, bytes_fail, bytes_then}
use Rattle.ownership.proofs.owners.claim_run.Goals as goal

pub returns-in_err-claim_bits : goal.returns-in_err-claim_bits
returns-in_err-claim_bits c =
    let args = c.args in
    let p = err_from_is_err_and c.from_residual.result c.from_residual.ensures.1 in
    rw p.1 (before_fails _ _ args.s args.n _ ((args.s + args.n) / 8) (omega arith) (omega arith) (omega arith) (rw c.in_err-claim_bits.was at c.claim_bits-2.ensures))

pub returns-then-not-all_zero : goal.returns-then-not-all_zero
returns-then-not-all_zero c =
    bytes_fail _ _ c.args.s c.args.n _ _ (omega arith) (omega arith) (omega arith)
    (λ i. search rules) (c.claim_bits-2.auto.marks ∙ c.requires.0) c.requires.1
    (rw c.in_ok-claim_bits.was at c.claim_bits-2.ensures) (sym c.all_zero.ensures ∙ c.if-not-all_zero.true)

pub returns : goal.returns
returns c =
    bytes_then _ _ c.args.s c.args.n _ _ (omega arith) (omega arith) (omega arith)
    (λ i. search rules) (c.claim_bits-2.auto.marks ∙ c.requires.0) c.requires.1
    (rw c.in_ok-claim_bits.was at c.claim_bits-2.ensures) (sym c.all_zero.ensures ∙ c.if-not-all_zero.false) (c.fill.ensures.after (λ y q. q)) c.claim_bits-3.ensures
