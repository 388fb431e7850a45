use mathlib.Core.Path.{ap}
use native.Mathlib.Omega.{arith}
use Rattle.files.specs.declared.check.Checked.{Checked}
use Rattle.files.specs.Code.Verdict.{checked_of}
use Rattle.work.specs.Refusals.{ruled}
use Rattle.desk.specs.Answers.{judged}
use Rattle.desk.specs.Calls.{step, rules, done, given, checked}
use Rattle.desk.proofs.Bounds.{check_few}
use Rattle.desk.proofs.Desk.check.Goals as goal

pub overflow_cast-free : goal.overflow_cast-free
overflow_cast-free c = record { fits = omega (arith, check_few c.args.image.now, ap (λ (v : Checked). v.free) c.check-verdict.ensures) }

pub returns : goal.returns
unfolding step rules done given judged ruled checked checked_of
returns c = rw (c.reply.ensures.answer, c.reply.ensures.desk, c.check-verdict.ensures)
