-- The loop's invariant: the letters of the first x sectors stand over what was lent.
use Rattle.lists.proofs.Fronts.{Placed}
use Rattle.picture.proofs.SectorsDrawn.{letters}
use Rattle.picture.proofs.draw_all.Given as goal

abbrev pub invariant-loop-x : goal.invariant-loop-x
invariant-loop-x l = Placed 0 (letters l.v.img.now l.x) l.initial.out l.out l.x
