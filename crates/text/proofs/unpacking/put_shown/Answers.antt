use mathlib.Core.Path.{ap, ◌∙◌}
use Prim.Native.Nat.{ℕ, ◌+◌, ◌-◌}
use native.Mathlib.Omega.{arith}
use lib.ListN.{replicate}
use borrow.Rule.Slice.PartMut.{mid_len}
use Rattle.lists.proofs.LentParts.{wrote}
use Rattle.text.specs.Packing.{space}
use Rattle.lists.proofs.Fronts.{Placed-one}
use Rattle.text.proofs.UnpackingSteps.{shown_self, length_self, length_spaces, spaces_shown}
use Rattle.text.proofs.unpacking.put_shown.Goals as goal

pub returns-then-b-lt-MARK : goal.returns-then-b-lt-MARK
returns-then-b-lt-MARK c = Placed-one _ _ _ _ (shown_self _ c.if-b-lt-MARK.true) (omega (arith, length_self c.args.b c.if-b-lt-MARK.true))

pub returns : goal.returns
returns c =
    let a = c.args in
    let e = a.n + c.from.result in
    let m = length_spaces a.b c.if-b-lt-MARK.false in
    let long = mid_len a.n e a.buffer.now (omega arith) in
    let is = spaces_shown a.b (e - a.n) c.if-b-lt-MARK.false (omega arith) in
    let filled = c.fill.ensures.after (λ y e. e) ∙ ap (λ (m : ℕ). replicate m space) long ∙ is in
    (omega arith, wrote a.n e a.buffer.now _ _ (omega arith) filled (omega arith))
