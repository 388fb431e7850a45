use mathlib.Core.List.{List}
use mathlib.Core.Path.{ap, ◌∙◌}
use Prim.Native.Nat.{ℕ}
use Rattle.front.specs.Front.{lent, ended}
use Rattle.front.specs.Code.Passed.{request_left}
use Rattle.front.proofs.RequestsLeft.{front_short, front_whole}
use Rattle.front.proofs.gateway.twynarvel_iocb.Goals as goal

pub returns-in_default : goal.returns-in_default
returns-in_default c =
    ap (λ (n : ℕ). ended n (lent c.args.block.now c.args.image.now c.args.desk.now c.args.task.now c.args.shared.now))
    c.number.ensures
    ∙ front_short c.args.caller _ _ _ _ _ c.in_default.ensures.cases

pub returns : goal.returns
returns c =
    front_whole c.args.caller c.args.block.now c.args.image.now c.args.desk.now c.args.task.now c.args.shared.now _
    c.request-a.result _ _ _ _ _
    c.in-Some.ensures.cases.long
    (c.request-a.ensures
    ∙ ap (λ (b : List ℕ). request_left c.args.caller b c.args.image.now c.args.desk.now c.args.task.now c.args.shared.now) c.in-Some.ensures.cases.same)
    c.number-2.ensures c.write_answer.ensures
