use Rattle.std.proofs.Common.{◌≡◌, false, is_ok, rules}
use native.Mathlib.Omega.{arith}
use Rattle.numbers.specs.Numbers.{most_sectors}
use Rattle.lists.proofs.Ranges.{range_below}
use Rattle.moves.proofs.rerouting.RunsPushed.{takes_then, failed, passed, fails_first, fails_second, pushed_three}
use Rattle.moves.proofs.rerouting.push_with.Goals as goal

pub returns-in_err-push_run : goal.returns-in_err-push_run
returns-in_err-push_run c =
    let k : is_ok c.from_residual.result ≡ false = search rules in
    rw k (fails_first _ c.requires.0.shaped _ _ _ _ c.requires.2 _ _ (failed c.in_err-push_run.was c.push_run.ensures))

pub push_run-requires-2 : goal.push_run-requires-2
push_run-requires-2 c =
    let first = passed c.in_ok-push_run.was c.push_run.ensures in
    (takes_then _ c.requires.0 _ _ (range_below most_sectors c.args.s c.args.j (omega arith)) first, omega arith)

pub returns-in_err-push_run-2 : goal.returns-in_err-push_run-2
returns-in_err-push_run-2 c =
    let first = passed c.in_ok-push_run.was c.push_run.ensures in
    let k : is_ok c.from_residual-in_err-push_run-2.result ≡ false = search rules in
    rw k
    (fails_second _ c.requires.0.shaped _ _ _ _ c.requires.2 _ first _ _ (failed c.in_err-push_run-2.was c.push_run-2.ensures))

pub push_run-requires-3 : goal.push_run-requires-3
push_run-requires-3 c =
    let first = passed c.in_ok-push_run.was c.push_run.ensures in
    let second = passed c.in_ok-push_run-2.was c.push_run-2.ensures in
    let one = takes_then _ c.requires.0 _ _ (range_below most_sectors c.args.s c.args.j (omega arith)) first in
    (takes_then _ one _ _ (range_below most_sectors c.args.q 1 (omega arith)) second, omega arith)

pub returns : goal.returns
returns c =
    let first = passed c.in_ok-push_run.was c.push_run.ensures in
    let second = passed c.in_ok-push_run-2.was c.push_run-2.ensures in
    pushed_three _ c.requires.0.shaped _ _ _ _ c.requires.2 _ first _ _ _ second c.push_run-3.ensures
