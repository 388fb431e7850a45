use Rattle.std.proofs.Common.{◌≡◌, ◌+◌, ◌*◌, ◌-◌, length, arith, subst, take, drop, refl}
use Rattle.std.proofs.lemmas.Grind.{common_steps}
use Rattle.std.specs.Fn.{FnOnceReturnsAtMut}
use Rattle.lists.proofs.LentParts.{lent_sector, wrote_sector}
use Rattle.lists.proofs.parts.at_sector.Goals as goal

pub returns : goal.returns
returns g c =
    let s = c.args.s in
    let img = c.args.img.now in
    let w = c.f.new.arg2 in
    let n : length w ≡ 256 = grind (arith, common_steps, c.f.auto.arg2, c.requires.inside) in
    let ran : FnOnceReturnsAtMut g.F.FnOnce c.args.f (take (256 * s + 256 - 256 * s) (drop (256 * s) img)) tt w = record { shown = _; shows = refl; left = _; met = c.f.ensures; leaves = refl } in
    (w, subst (λ b. FnOnceReturnsAtMut g.F.FnOnce c.args.f b tt w) (lent_sector s img) ran, n, wrote_sector s img w w refl n)
