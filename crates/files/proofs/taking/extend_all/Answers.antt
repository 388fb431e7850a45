use mathlib.Core.Path.{refl, ◌∙◌}
use native.Mathlib.Omega.{arith}
use Rattle.files.proofs.taking.ExtendedBy.{grown_none, grown_Extends, grown_more}
use Rattle.files.proofs.taking.extend_all.Goals as goal

pub loop-s-init : goal.loop-s-init
loop-s-init c =
    (omega arith, grown_none c.args.f.now c.args.ss.now c.requires (λ i. (c.type_inv.f i).fits), refl)

pub extend-requires : goal.extend-requires
extend-requires c =
    let l = c.loop-s in
    rw c.from.ensures (grown_Extends c.args.f.now c.args.ss.now c.requires l.s-index (omega arith) l.f l.invariant.1)

pub loop-s-preserved : goal.loop-s-preserved
loop-s-preserved c =
    let l = c.loop-s in (
      omega arith,
      grown_more c.args.f.now c.args.ss.now c.requires l.s-index (omega arith) l.f l.invariant.1 _
          (rw c.from.ensures at c.extend.ensures),
      c.extend.auto.f ∙ l.invariant.2,
    )
