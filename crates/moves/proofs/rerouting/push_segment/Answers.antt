use Rattle.std.proofs.Common.{◌≡◌, ◌-◌}
use native.Mathlib.Omega.{arith}
use Rattle.moves.proofs.rerouting.RunsPushed.{with_before, with_in, with_after}
use Rattle.moves.proofs.rerouting.push_segment.Goals.{in_default-via-in-Some+else-j-n, in_default-via-in_default}
use Rattle.moves.proofs.rerouting.push_segment.Goals as goal

pub returns-in-Some : goal.returns-in-Some
returns-in-Some c =
    let a = c.args in
    let h = c.checked_sub.ensures in
    let g = c.in-Some.is in
    let j : a.i - a.at ≡ c.in-Some.j = omega arith in
    rw (with_in a.at a.s a.n a.i a.q (omega arith), j) c.push_with.ensures

pub returns-in_default : goal.returns-in_default
returns-in_default c =
    let a = c.args in
    let h = c.checked_sub.ensures in
    elim c.in_default.branch [
      | in_default-via-in-Some+else-j-n w ↦ rw (with_after a.at a.s a.n a.i a.q (omega arith) (omega arith)) c.push_run.ensures
      | in_default-via-in_default w ↦ rw (with_before a.at a.s a.n a.i a.q (omega arith)) c.push_run.ensures
    ]
