use mathlib.Core.List.{[], ◌∷◌}
use mathlib.Core.Path.{refl, sym, ◌∙◌}
use native.Mathlib.Omega.{arith}
use lib.ListN.{length-set}
use Rattle.lists.proofs.Fronts.{Front-start, Front-more, front_end, Placed-one}
use Rattle.volume.specs.Directory.{entries, entry_at}
use Rattle.volume.specs.Code.Used.{used_slots}
use Rattle.volume.proofs.Slots.{count_slots}
use Rattle.volume.proofs.used.UsedSlots.{places_one, places_gap, places_end}
use Rattle.volume.proofs.mount.Volume.list_used.Goals as goal

pub loop-k-init : goal.loop-k-init
unfolding used_slots
loop-k-init c = (omega arith, omega arith, refl, Front-start _ _)

pub loop-k-preserved-then-pass-eq0 : goal.loop-k-preserved-then-pass-eq0
unfolding entry_at
loop-k-preserved-then-pass-eq0 c =
    let l = c.loop-k in
    let img = c.args.self.now.img.now in
    let m = count_slots img _ c.args.self.now.located in
    let u = c.gap-pass.ensures.taken c.if-pass-eq0.true in (
      omega arith,
      omega arith,
      length-set l.used l.n l.k ∙ l.invariant.2,
      Front-more _ _ _ _ _ l.invariant.3 (l.k ∷ []) _ _ _ (places_one (entries img) l.k (omega arith) u) (Placed-one l.n l.k (l.k ∷ []) _ refl (omega arith)),
    )

pub loop-k-preserved : goal.loop-k-preserved
unfolding entry_at
loop-k-preserved c =
    let l = c.loop-k in
    let img = c.args.self.now.img.now in
    let m = count_slots img _ c.args.self.now.located in
    let g = c.gap-pass.ensures in (
      omega arith,
      omega arith,
      l.invariant.2,
      rw (sym (places_gap (entries img) c.gap-pass.result l.k (omega arith) g.none)) l.invariant.3,
    )

pub returns : goal.returns
returns c =
    let l = c.loop-k in
    let img = c.args.self.now.img.now in
    let m = count_slots img _ c.args.self.now.located in
    let f = front_end _ _ _ _ _ l.invariant.3 (places_end (entries img) l.k (omega arith)) in
    record { length = f.0; slots = f.1 }
