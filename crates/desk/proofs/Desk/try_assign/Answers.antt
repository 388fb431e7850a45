use mathlib.Core.Path.{ap, sym, ◌∙◌}
use native.Mathlib.Omega.{arith}
use Rattle.desk.specs.Calls.{step, rules, given, assign_rules, seat_of}
use Rattle.desk.specs.Code.Opened.{begun_of}
use Rattle.desk.specs.Code.Left.{assign_left, seat_left}
use Rattle.desk.proofs.Openings.{handed_on, begins, begun_fine, begun_refused}
use Rattle.desk.proofs.WhoseLun.{spare_low}
use Rattle.desk.proofs.Assigned.{mode_unknown, mode_known, mode_refused, mode_fits, assign_begun}
use Rattle.desk.proofs.Named.{named_refused, named_slot, named_left, named_long, named_InUse}
use Rattle.desk.proofs.Desk.try_assign.Goals as goal

pub returns-in_err-p : goal.returns-in_err-p
unfolding step rules given assign_rules
returns-in_err-p c =
    rw (handed_on _ _ c.from_residual.ensures.1)
    (sym (begun_refused _ _ _ (sym (c.begin.ensures ∙ ap (begun_of _) c.spare.ensures) ∙ c.in_err-p.was) _ _ _))

pub returns-in_default : goal.returns-in_default
returns-in_default c =
    mode_refused _ _ _ _ _ _ _ (mode_unknown _ _ (sym c.try_from.ensures ∙ c.in_default.is))
    ∙ assign_begun _ _ _ _ _ _ _ _ (sym (c.begin.ensures ∙ ap (begun_of _) c.spare.ensures) ∙ c.in_ok-p.was)

pub invariant_of-seek : goal.invariant_of-seek
invariant_of-seek c =
    let b = begins _ _ _ (sym (c.begin.ensures ∙ ap (begun_of _) c.spare.ensures) ∙ c.in_ok-p.was) in
    record { located = b.located }

pub returns-in_err-slot : goal.returns-in_err-slot
unfolding assign_left
returns-in_err-slot c =
    rw (handed_on _ _ c.from_residual-in_err-slot.ensures.1)
    (sym (named_refused _ _ _ (sym c.seek.ensures ∙ c.in_err-slot.was) _ _ _)
    ∙ mode_fits _ _ _ _ _ _ _ (mode_known _ _ (sym c.try_from.ensures ∙ c.in-Ok.is)).0
    ∙ assign_begun _ _ _ _ _ _ _ _ (sym (c.begin.ensures ∙ ap (begun_of _) c.spare.ensures) ∙ c.in_ok-p.was))

pub user_of-owner-requires : goal.user_of-owner-requires
user_of-owner-requires c = omega (arith, named_long _ _ _ (sym c.seek.ensures ∙ c.in_ok-slot.was))

pub seat_of-u-requires : goal.seat_of-u-requires
seat_of-u-requires c =
    let b = begins _ _ _ (sym (c.begin.ensures ∙ ap (begun_of _) c.spare.ensures) ∙ c.in_ok-p.was) in
    named_InUse _ _ _ (sym c.seek.ensures ∙ c.in_ok-slot.was) _ b

pub seat-requires : goal.seat-requires
unfolding seat_of
seat-requires c =
    let begun = sym (c.begin.ensures ∙ ap (begun_of _) c.spare.ensures) ∙ c.in_ok-p.was in
    let b = begins _ _ _ begun in
    let held = named_InUse _ _ _ (sym c.seek.ensures ∙ c.in_ok-slot.was) _ b in
    (b.located, rw c.seat_of-u.ensures held.slot, spare_low _ _ _ (begun_fine _ _ _ begun))

pub returns : goal.returns
unfolding assign_left seat_left
returns c =
    let s = sym c.seek.ensures ∙ c.in_ok-slot.was in
    c.seat.ensures
    ∙ rw (c.seat_of-u.ensures, c.user_of-owner.ensures.0, named_slot _ _ _ s, (mode_known _ _ (sym c.try_from.ensures ∙ c.in-Ok.is)).1)
    (sym (named_left _ _ _ s _ _ _)
    ∙ mode_fits _ _ _ _ _ _ _ (mode_known _ _ (sym c.try_from.ensures ∙ c.in-Ok.is)).0
    ∙ assign_begun _ _ _ _ _ _ _ _ (sym (c.begin.ensures ∙ ap (begun_of _) c.spare.ensures) ∙ c.in_ok-p.was))
