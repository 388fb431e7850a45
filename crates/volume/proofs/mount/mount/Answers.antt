use Rattle.std.proofs.Common.{refl, sym, ◌∙◌}
use Rattle.volume.proofs.Located.{located, Layout-is}
use Rattle.volume.proofs.mount.mount.Goals as goal

pub returns : goal.returns
returns c =
    let l = located c.args.img.now c.in_ok-p.p (sym c.locate.ensures ∙ c.in_ok-p.was) in
    (l.sound_1, refl, Layout-is _ _ l)
