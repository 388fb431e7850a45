use mathlib.Core.Path.{refl, sym, ◌∙◌}
use mathlib.Core.List.{[], append-nil}
use Prim.Native.Nat.{◌+◌}
use native.Mathlib.Omega.{arith}
use lib.ListN.{get_or, drop}
use borrow.Author.Rules.{rules}
use Rattle.text.specs.Packing.{packed, packed_from, goes_out, held_after, rest}
use Rattle.lists.proofs.Fronts.{Front-start, front_fits, Front-more, front_end}
use Rattle.text.proofs.PackedLength.{packed_shorter}
use Rattle.text.proofs.PackingSteps.{packed_at, packed_end}
use Rattle.text.proofs.packing.pack.Goals as goal

pub loop-b-init : goal.loop-b-init
unfolding packed
loop-b-init c = (search rules, Front-start _ _, refl)

pub put_step-n-requires : goal.put_step-n-requires
put_step-n-requires c =
    let l = c.loop-b in
    let t = c.args.bytes.now in
    let b = get_or t l.b-index 0 in
    let later = packed_from (held_after l.k b) (drop (l.b-index + 1) t) in
    (l.invariant.0, front_fits _ _ _ _ _ l.invariant.1 (goes_out l.k b) later _ (packed_at l.k t l.b-index (omega arith)) (omega (arith, packed_shorter t)))

pub loop-b-preserved : goal.loop-b-preserved
loop-b-preserved c =
    let l = c.loop-b in
    let t = c.args.bytes.now in
    let h = c.held_after-k.ensures in
    (h.1, rw h.0 (Front-more _ _ _ _ _ l.invariant.1 _ _ _ _ (packed_at l.k t l.b-index (omega arith)) c.put_step-n.ensures), c.put_step-n.auto.out ∙ l.invariant.2)

pub put_rest-requires : goal.put_rest-requires
put_rest-requires c =
    let l = c.loop-b in
    let t = c.args.bytes.now in
    let e = packed_end l.k t l.b-index (omega arith) ∙ sym (append-nil (rest l.k)) in
    (l.invariant.0, front_fits _ _ _ _ _ l.invariant.1 (rest l.k) [] _ e (omega (arith, packed_shorter t)))

pub returns : goal.returns
returns c =
    let l = c.loop-b in
    let t = c.args.bytes.now in
    let e = packed_end l.k t l.b-index (omega arith) ∙ sym (append-nil (rest l.k)) in
    let w = front_end _ _ _ _ _ (Front-more _ _ _ _ _ l.invariant.1 _ _ _ _ e c.put_rest.ensures) refl in
    (w.0, omega (arith, w.0, packed_shorter t), w.1)
