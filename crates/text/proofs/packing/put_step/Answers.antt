use mathlib.Core.Path.{◌≡◌, ap}
use mathlib.Core.List.{[], ◌∷◌}
use native.Mathlib.Omega.{arith}
use lib.ListN.{length}
use Rattle.lists.proofs.Fronts.{Placed-none, Placed-one, Placed-next}
use Rattle.text.specs.Packing.{goes_out}
use Rattle.text.proofs.PackingSteps.{goes_full, goes_space, goes_other, goes_room}
use Rattle.text.proofs.packing.put_step.Goals as goal

pub put_rest-m-requires : goal.put_rest-m-requires
put_rest-m-requires c = (c.requires.0, omega (arith, goes_room c.args.k c.args.b c.if-b-ne32.true))

pub bounds-out-m : goal.bounds-out-m
bounds-out-m c = omega (arith, goes_room c.args.k c.args.b c.if-b-ne32.true)

pub returns-then-b-ne32 : goal.returns-then-b-ne32
returns-then-b-ne32 c = Placed-next _ _ _ _ _ _ _ c.put_rest-m.ensures (goes_other _ _ c.if-b-ne32.true) c.requires.1

pub returns-then-k-lt-MOST_SPACES : goal.returns-then-k-lt-MOST_SPACES
returns-then-k-lt-MOST_SPACES c =
    let e : goes_out c.args.k c.args.b ≡ [] = rw c.if-b-ne32.false (goes_space _ (λ q. omega arith)) in
    Placed-none _ _ _ e

pub bounds-out-n : goal.bounds-out-n
bounds-out-n c =
    let e : goes_out c.args.k c.args.b ≡ 255 ∷ [] = rw c.if-b-ne32.false (goes_full _ (omega arith)) in
    omega (arith, ap length e)

pub returns : goal.returns
returns c =
    let e : goes_out c.args.k c.args.b ≡ 255 ∷ [] = rw c.if-b-ne32.false (goes_full _ (omega arith)) in
    Placed-one _ _ _ _ e (omega (arith, ap length e))
