use mathlib.Core.Path.{refl, sym, ◌∙◌}
use native.Mathlib.Omega.{arith}
use lib.Seq.{length-take-le}
use Rattle.lists.proofs.Fronts.{over_front}
use Rattle.volume.specs.Code.Used.{used_slots}
use Rattle.volume.proofs.used.UsedSlots.{listed_most}
use Rattle.ownership.proofs.Verdicts.{sound_judged}
use Rattle.files.proofs.check.SoundVerdict.{judged_nowhere, owners_once, judged_then}
use Rattle.files.proofs.check.locate_sound.Goals as goal

pub returns-in_err-p : goal.returns-in_err-p
returns-in_err-p c = c.from_residual.ensures ∙ judged_nowhere _ (sym c.judge.ensures.0 ∙ c.in_err-p.was)

pub slice_bounds-used-end : goal.slice_bounds-used-end
slice_bounds-used-end c =
    let h = sound_judged _ _ (sym c.judge.ensures.0 ∙ c.in_ok-p.was) in
    omega (arith, h.1, listed_most _ _ h.0.located _ refl, c.judge.auto.used)

pub slice_bounds-used-end-2 : goal.slice_bounds-used-end-2
slice_bounds-used-end-2 c =
    let h = sound_judged _ _ (sym c.judge.ensures.0 ∙ c.in_ok-p.was) in
    sym (length-take-le _ _ (omega (arith, h.1, listed_most _ _ h.0.located _ refl, c.judge.auto.used)))

pub invariant_of-used : goal.invariant_of-used
invariant_of-used c =
    let h = sound_judged _ _ (sym c.judge.ensures.0 ∙ c.in_ok-p.was) in
    record { located = h.0.located }

pub invariant_of-used-2 : goal.invariant_of-used-2
invariant_of-used-2 c =
    let h = sound_judged _ _ (sym c.judge.ensures.0 ∙ c.in_ok-p.was) in
    let u = rw h.0.located.sound_1 at c.judge.ensures.1 in
    record { listed = rw (h.1, u) (over_front (used_slots c.args.img.now) _) }

pub contents_sound-requires : goal.contents_sound-requires
contents_sound-requires c =
    let h = sound_judged _ _ (sym c.judge.ensures.0 ∙ c.in_ok-p.was) in
    (h.0.point3, owners_once _ _ h.0)

pub returns : goal.returns
returns c =
    c.then_some.ensures ∙ rw c.contents_sound.ensures
    (judged_then _ _ (sound_judged _ _ (sym c.judge.ensures.0 ∙ c.in_ok-p.was)).0)
