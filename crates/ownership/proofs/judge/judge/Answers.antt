use mathlib.Core.Path.{refl, sym, ap, ◌∙◌}
use native.Mathlib.Omega.{arith}
use lib.Seq.{length-take-le}
use Rattle.lists.proofs.Fronts.{over_front}
use Rattle.volume.specs.Code.Used.{used_slots}
use Rattle.volume.proofs.used.UsedSlots.{listed_most}
use Rattle.ownership.specs.Code.Verdict.{judged_of}
use Rattle.ownership.proofs.Verdicts.{judged_unsound, judged_sound, fails_1}
use Rattle.ownership.proofs.judge.judge.Goals as goal

pub returns-in_err-volume : goal.returns-in_err-volume
returns-in_err-volume c =
    let none = c.in_err-volume.ensures in
    (c.from_residual.ensures ∙ judged_unsound _ (fails_1 _ none), rw none)

pub slice_bounds-judge_listed-end : goal.slice_bounds-judge_listed-end
slice_bounds-judge_listed-end c =
    let v = c.in_ok-volume.volume in
    omega (arith, c.list_used-files.ensures.length, c.list_used-files.auto.used, listed_most _ _ v.located _ refl, c.requires)

pub slice_bounds-judge_listed-end-2 : goal.slice_bounds-judge_listed-end-2
slice_bounds-judge_listed-end-2 c =
    let v = c.in_ok-volume.volume in
    sym (length-take-le _ _ (omega (arith, c.list_used-files.ensures.length, c.list_used-files.auto.used, listed_most _ _ v.located _ refl, c.requires)))

pub invariant_of-judge_listed : goal.invariant_of-judge_listed
invariant_of-judge_listed c =
    record { listed = rw (c.list_used-files.ensures.length, c.list_used-files.ensures.slots) (over_front (used_slots c.in_ok-volume.volume.img.now) _) }

pub returns-then-judge_listed : goal.returns-then-judge_listed
returns-then-judge_listed c =
    let v = c.in_ok-volume.volume in
    let of = c.in_ok-volume.ensures in (
      judged_sound _ _ _ v.located c.list_used-files.ensures.length (sym c.judge_listed.ensures ∙ c.if-judge_listed.true) ∙ ap judged_of of.1,
      rw (of.0, ← of.1) c.list_used-files.ensures.slots,
    )

pub returns-else-judge_listed : goal.returns-else-judge_listed
returns-else-judge_listed c =
    let of = c.in_ok-volume.ensures in (
      judged_unsound _ (sym c.judge_listed.ensures ∙ c.if-judge_listed.false) ∙ ap judged_of of.1,
      rw (of.0, ← of.1) c.list_used-files.ensures.slots,
    )
