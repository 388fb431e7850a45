use Rattle.std.proofs.Common.{arith, ap, sym, ◌∙◌}
use Rattle.lists.specs.Parts.{zeros}
use Rattle.volume.proofs.used.EmptySectors.{Gap-sector}
use Rattle.volume.proofs.mount.Volume.gap.Goals as goal

pub returns-then-all_zero : goal.returns-then-all_zero
returns-then-all_zero c =
    let v = c.args.self.now in
    let z = ap zeros (sym c.sector.ensures) ∙ sym c.all_zero.ensures ∙ c.if-all_zero.true in
    Gap-sector v.img.now v.p v.located c.args.k c.requires (omega (arith, c.if-k-eq0.true)) z
