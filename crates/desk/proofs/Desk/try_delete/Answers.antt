use mathlib.Core.Path.{sym, ◌∙◌}
use Rattle.desk.specs.Calls.{step, rules, given, delete_rules}
use Rattle.desk.specs.Code.Left.{delete_left, remove_left}
use Rattle.desk.proofs.Openings.{handed_on, begins, begun_refused}
use Rattle.desk.proofs.Assigned.{delete_begun}
use Rattle.desk.proofs.Named.{named_refused, named_slot, named_left, named_long, named_InUse}
use Rattle.desk.proofs.Desk.try_delete.Goals as goal

pub returns-in_err-p : goal.returns-in_err-p
unfolding step rules given delete_rules
returns-in_err-p c =
    rw (handed_on _ _ c.from_residual.ensures.1) (sym (begun_refused _ _ _ (sym c.begin.ensures ∙ c.in_err-p.was) _ _ _))

pub invariant_of-seek : goal.invariant_of-seek
invariant_of-seek c = record { located = (begins _ _ _ (sym c.begin.ensures ∙ c.in_ok-p.was)).located }

pub returns-in_err-slot : goal.returns-in_err-slot
unfolding delete_left
returns-in_err-slot c =
    rw (handed_on _ _ c.from_residual-in_err-slot.ensures.1)
    (sym (named_refused _ _ _ (sym c.seek.ensures ∙ c.in_err-slot.was) _ _ _) ∙ delete_begun _ _ _ _ (sym c.begin.ensures ∙ c.in_ok-p.was))

pub remove-requires : goal.remove-requires
remove-requires c =
    let s = sym c.seek.ensures ∙ c.in_ok-slot.was in
    (named_InUse _ _ _ s _ (begins _ _ _ (sym c.begin.ensures ∙ c.in_ok-p.was)), named_long _ _ _ s)

pub returns : goal.returns
unfolding delete_left remove_left
returns c =
    let s = sym c.seek.ensures ∙ c.in_ok-slot.was in
    c.remove.ensures
    ∙ rw (named_slot _ _ _ s)
    (sym (named_left _ _ _ s _ _ _) ∙ delete_begun _ _ _ _ (sym c.begin.ensures ∙ c.in_ok-p.was))
