use mathlib.Core.Path.{sym, ◌∙◌}
use Rattle.deskbytes.proofs.UnpackedDesk.{form_length}
use Rattle.front.proofs.RequestsLeft.{request_bad, request_code, request_transfer, request_rewind}
use Rattle.front.proofs.requests.request.Goals as goal

pub returns-then-not-in_form : goal.returns-then-not-in_form
returns-then-not-in_form c = request_bad _ _ _ _ _ _ (sym c.in_form.ensures ∙ c.if-not-in_form.true)

pub transfer-requires : goal.transfer-requires
transfer-requires c = form_length _ (sym c.in_form.ensures ∙ c.if-not-in_form.false)

pub returns-then-is_transfer : goal.returns-then-is_transfer
returns-then-is_transfer c =
    request_transfer _ _ _ _ _ _ _ (sym c.in_form.ensures ∙ c.if-not-in_form.false) (sym c.is_transfer.ensures ∙ c.if-is_transfer.true) c.transfer.ensures

pub rewind-requires : goal.rewind-requires
rewind-requires c = form_length _ (sym c.in_form.ensures ∙ c.if-not-in_form.false)

pub returns-then-is_rewind : goal.returns-then-is_rewind
returns-then-is_rewind c =
    request_rewind _ _ _ _ _ _ _ (sym c.in_form.ensures ∙ c.if-not-in_form.false) (sym c.is_transfer.ensures ∙ c.if-is_transfer.false)
    (sym c.is_rewind.ensures ∙ c.if-is_rewind.true)
    (c.rewind.ensures _ _)

pub returns : goal.returns
returns c =
    request_code _ _ _ _ _ _ (sym c.in_form.ensures ∙ c.if-not-in_form.false) (sym c.is_transfer.ensures ∙ c.if-is_transfer.false)
    (sym c.is_rewind.ensures ∙ c.if-is_rewind.false)
