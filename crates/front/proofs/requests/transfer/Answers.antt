use mathlib.Core.Path.{sym, subst, ◌∙◌}
use Rattle.front.specs.declared.areas.Span.{Span}
use Rattle.front.specs.Areas.{inside}
use Rattle.front.specs.Code.Spans.{span_of, Within}
use Rattle.front.proofs.RequestsLeft.{transfer_refused, transfer_carried}
use Rattle.front.proofs.FilledAreas.{inside-Within}
use Rattle.front.proofs.requests.transfer.Goals as goal

pub returns-then-not-inside : goal.returns-then-not-inside
returns-then-not-inside c =
    transfer_refused _ _ _ _ _ _
    (sym (λ i. inside (c.start-start.ensures i) (c.end-end.ensures i) c.args.task.now c.args.shared.now) ∙ sym c.inside.ensures ∙ c.if-not-inside.true)

pub carry-r-requires : goal.carry-r-requires
carry-r-requires c =
    subst (λ (p : Span). Within p c.args.task.now c.args.shared.now) (sym c.span_of-p.ensures)
    (inside-Within _ _ _ _ (sym c.inside.ensures ∙ c.if-not-inside.false))

pub keep-requires : goal.keep-requires
keep-requires c = c.requires

pub returns : goal.returns
returns c =
    transfer_carried _ _ _ _ _ _ _ _ _ c.carry-r.result _ _ _ _ _
    (sym (λ i. inside (c.start-start.ensures i) (c.end-end.ensures i) c.args.task.now c.args.shared.now) ∙ sym c.inside.ensures ∙ c.if-not-inside.false)
    c.open-d.ensures c.order_of-o.ensures
    (c.span_of-p.ensures ∙ (λ i. span_of (c.start-start.ensures i) (c.end-end.ensures i)))
    c.carry-r.ensures c.keep.ensures.0 c.keep.ensures.1
