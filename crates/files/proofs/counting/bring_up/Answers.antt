use mathlib.Core.Path.{refl, sym, ◌∙◌}
use native.Mathlib.Omega.{arith}
use Rattle.ownership.proofs.Verdicts.{sound_judged}
use Rattle.files.proofs.check.SoundVerdict.{judged_not_before, judged_before, owners_once}
use Rattle.files.proofs.counting.CountLoops.{before_few, up_not, up_done, not_ok}
use Rattle.files.proofs.counting.bring_up.Goals as goal

pub returns-in_err-p : goal.returns-in_err-p
returns-in_err-p c =
    let img = c.args.img.now in
    let g = up_not img (judged_not_before img (sym c.judge.ensures.0 ∙ c.in_err-p.ensures.ok_part)) in
    (not_ok c.from_residual.result c.from_residual.ensures.0 ∙ g.0, g.1)

pub count_all-requires : goal.count_all-requires
count_all-requires c =
    let h = (sound_judged _ _ (sym c.judge.ensures.0 ∙ c.in_ok-p.ensures.ok_part)).0 in
    (h.located, h.point3, owners_once _ _ h, omega (arith, h.located.few_dirs))

pub returns-in_err-count_all : goal.returns-in_err-count_all
returns-in_err-count_all c =
    let img = c.args.img.now in
    let h = (sound_judged _ _ (sym c.judge.ensures.0 ∙ c.in_ok-p.ensures.ok_part)).0 in
    let g = up_not img (judged_before img _ h ∙ sym c.in_err-count_all.ensures.0) in
    (not_ok c.from_residual-in_err-count_all.result c.from_residual-in_err-count_all.ensures.0 ∙ g.0, g.1)

pub write_counts-requires : goal.write_counts-requires
write_counts-requires c =
    let h = (sound_judged _ _ (sym c.judge.ensures.0 ∙ c.in_ok-p.ensures.ok_part)).0 in
    let known = c.in_ok-count_all.ensures.1 refl in (
      h.located,
      omega (arith, h.located.few_dirs),
      λ k l. (known k l, rw (known k l) (before_few _ _ h.located h.point3 (owners_once _ _ h) k l)),
    )

pub returns : goal.returns
returns c =
    let img = c.args.img.now in
    let h = (sound_judged _ _ (sym c.judge.ensures.0 ∙ c.in_ok-p.ensures.ok_part)).0 in
    up_done img _ (judged_before img _ h ∙ sym c.in_ok-count_all.ensures.0) c.write_counts.ensures
