use mathlib.Core.Path.{◌≡◌, sym, ◌∙◌}
use lib.ListN.{length}
use borrow.Author.Rules.{rules}
use Rattle.luns.specs.Luns.{free_lun}
use Rattle.luns.proofs.Arrays.{length_of_map}
use Rattle.luns.proofs.Walks.{whole_fits, left_free, left_fit, left_unfit, left_end}
use Rattle.luns.proofs.fits.fits.Goals.{else-u-via-then-u+else-not-fit, else-u-via-else-u}
use Rattle.luns.proofs.fits.fits.Goals as goal

pub returns-then-not-fit : goal.returns-then-not-fit
unfolding free_lun
returns-then-not-fit c =
    let long : length c.args.luns.now ≡ 16 =
    search (rules, length_of_map) in
    let r = c.loop-rest.rest.now in
    sym (whole_fits _ _ long ∙ c.loop-rest.invariant ∙ left_unfit c.args.v.now.img.now r c.in-len1-up.len_at_least (sym c.if-not-fit.true ∙ c.fit.ensures))

pub loop-rest-preserved : goal.loop-rest-preserved
unfolding free_lun
loop-rest-preserved c =
    let img = c.args.v.now.img.now in
    let r = c.loop-rest.rest.now in
    c.loop-rest.invariant
    ∙ elim c.else-u.branch [
      | else-u-via-then-u+else-not-fit w ↦ left_fit img r c.in-len1-up.len_at_least (sym w.if-not-fit.false ∙ w.fit.ensures)
      | else-u-via-else-u w ↦ left_free img r c.in-len1-up.len_at_least w.if-u.false
    ]

pub returns : goal.returns
returns c =
    let long : length c.args.luns.now ≡ 16 =
    search (rules, length_of_map) in
    left_end _ _ c.in_default.len_below ∙ sym (whole_fits _ _ long ∙ c.loop-rest.invariant)
