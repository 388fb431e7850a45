use mathlib.Core.List.{List}
use mathlib.Core.Path.{ap, sym}
use Prim.Native.Nat.{ℕ}
use Rattle.desk.specs.Desk.{state}
use Rattle.desk.specs.Calls.{write, update, step}
use Rattle.front.specs.declared.requests.Function.{Function}
use Rattle.front.specs.Areas.{area}
use Rattle.front.specs.Code.Orders.{call_for}
use Rattle.front.specs.Code.Spans.{part_of}
use Rattle.front.proofs.FilledAreas.{fills_by, fills_sent}
use Rattle.front.proofs.requests.carry.Goals as goal

pub returns-in-Write : goal.returns-in-Write
returns-in-Write c =
    fills_by _ _ _ _ _ _ _ _ _ _
    (sym (ap (λ (f : Function). call_for f c.args.caller c.args.o (part_of c.args.p (area c.args.p.shared c.args.task.now c.args.shared.now))) c.in-Write.is))
    (fills_sent c.write.result
    (λ (x : List ℕ). step (write c.args.caller c.args.o.lun c.args.o.sel c.args.o.num c.args.o.formatted x)
    (state c.args.image.now c.args.d)) _ _ _ _ c.args.p c.requires c.part-data.ensures c.write.ensures)

pub returns-in-Update : goal.returns-in-Update
returns-in-Update c =
    fills_by _ _ _ _ _ _ _ _ _ _
    (sym (ap (λ (f : Function). call_for f c.args.caller c.args.o (part_of c.args.p (area c.args.p.shared c.args.task.now c.args.shared.now))) c.in-Update.is))
    (fills_sent c.update.result
    (λ (x : List ℕ). step (update c.args.caller c.args.o.lun c.args.o.sel c.args.o.num c.args.o.formatted x)
    (state c.args.image.now c.args.d)) _ _ _ _ c.args.p c.requires c.part-data-in-Update.ensures c.update.ensures)
