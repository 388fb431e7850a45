-- The loop's invariant: `any` and what is left are zero as the whole is.
use mathlib.Core.Path.{◌≡◌}
use lib.ListN.{drop}
use lib.Dec.{eqb}
use Rattle.lists.specs.Lists.{◌and◌}
use Rattle.lists.specs.Parts.{zeros}
use Rattle.lists.proofs.parts.all_zero.Given as goal

abbrev pub invariant-loop-b : goal.invariant-loop-b
invariant-loop-b l = eqb l.any 0 and zeros (drop l.b-index l.s) ≡ zeros l.s
