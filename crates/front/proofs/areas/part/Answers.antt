use native.Mathlib.Omega.{arith}
use mathlib.Core.Path.{refl}
use Rattle.lists.specs.Parts.{part}
use Rattle.front.proofs.areas.part.Goals as goal

pub slice_bounds-result-end : goal.slice_bounds-result-end
slice_bounds-result-end c = omega (arith, rw c.if-p.true at c.requires.within)

pub slice_bounds-result-end-else-p : goal.slice_bounds-result-end-else-p
slice_bounds-result-end-else-p c = omega (arith, rw c.if-p.false at c.requires.within)

pub returns-then-p : goal.returns-then-p
unfolding part
returns-then-p c = rw c.if-p.true refl

pub returns-else-p : goal.returns-else-p
unfolding part
returns-else-p c = rw c.if-p.false refl
