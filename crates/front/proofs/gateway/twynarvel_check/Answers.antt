use mathlib.Core.Path.{ap, sym, subst, ◌∙◌}
use Prim.Native.Nat.{◌<◌}
use Rattle.desk.specs.Answers.{Answer}
use Rattle.desk.specs.Answers.{Outcome}
use Rattle.front.specs.Front.{verdict}
use Rattle.front.proofs.ServedCalls.{verdict_few, verdict_any}
use Rattle.front.proofs.gateway.twynarvel_check.Goals as goal

pub verdict_of-requires : goal.verdict_of-requires
verdict_of-requires c = subst (λ (x : Answer). verdict x < 131072) (sym (ap (λ (o : Outcome). o.answer) c.check.ensures)) (verdict_few _ _)

pub returns : goal.returns
returns c = c.verdict_of.ensures ∙ ap (λ (o : Outcome). verdict o.answer) c.check.ensures ∙ verdict_any _ _
