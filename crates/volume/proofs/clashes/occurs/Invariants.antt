-- The loop's invariant: the number is in the list if it was found or is in what is left.
use mathlib.Core.Path.{◌≡◌}
use lib.ListN.{drop}
use Rattle.lists.specs.Lists.{among, ◌or◌}
use Rattle.volume.proofs.clashes.occurs.Given as goal

abbrev pub invariant-loop-n : goal.invariant-loop-n
invariant-loop-n l = among l.x l.numbers ≡ l.found or among l.x (drop l.n-index l.numbers)
