use mathlib.Core.Path.{ap, ◌∙◌}
use Prim.Native.Nat.{◌/◌}
use lib.ListN.{length}
use Rattle.lists.specs.Parts.{blanks, over, sectors}
use Rattle.lists.proofs.Puts.{length-blanks}
use Rattle.volume.proofs.Formatted.{laid_fresh, sat_lent, sat_back, trailer_lent, trailer_back}
use Rattle.volume.proofs.format.format.Goals as goal

pub mark_system-requires : goal.mark_system-requires
unfolding sectors
mark_system-requires c =
    let t = length c.args.img.now / 256 in
    let e = c.copy_in.ensures ∙ ap (over c.args.id.now)
    (c.clear.ensures ∙ ap blanks c.requires.0) in
    let l = sat_lent c.args.id.now t c.args.d c.requires.5 c.requires.1 _ e in (
      ap length l ∙ length-blanks 256,
      l,
      rw c.fresh_layout-p.ensures
          (laid_fresh t c.args.d c.requires.1 c.requires.2 c.requires.4),
    )

pub put_trailer-requires : goal.put_trailer-requires
unfolding sectors
put_trailer-requires c =
    let t = length c.args.img.now / 256 in
    let e = c.copy_in.ensures
    ∙ ap (over c.args.id.now) (c.clear.ensures ∙ ap blanks c.requires.0) in
    let g = sat_back c.args.id.now t c.args.d c.requires.5 c.requires.1 _ e _
    (rw c.fresh_layout-p.ensures at
    c.mark_system.ensures) in
    let l = trailer_lent c.args.id.now t c.args.d c.requires.5 c.requires.1 _ g in (
      ap length l ∙ length-blanks 256,
      l,
      rw c.fresh_layout-p.ensures
          (laid_fresh t c.args.d c.requires.1 c.requires.2 c.requires.4),
    )

pub returns : goal.returns
unfolding sectors
returns c =
    let t = length c.args.img.now / 256 in
    let e = c.copy_in.ensures
    ∙ ap (over c.args.id.now) (c.clear.ensures
    ∙ ap blanks c.requires.0) in
    let p = c.fresh_layout-p.ensures in
    let g = sat_back c.args.id.now t c.args.d c.requires.5 c.requires.1 _ e _ (rw p at c.mark_system.ensures) in
    trailer_back c.args.id.now t c.args.d c.requires.5 c.requires.1 _ g _ (rw p at c.put_trailer.ensures)
