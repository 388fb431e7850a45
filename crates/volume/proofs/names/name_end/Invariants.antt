-- The loop's invariant: what is left ends a name as the whole does.
use mathlib.Core.Path.{◌≡◌}
use lib.ListN.{drop}
use Rattle.volume.specs.Names.{name_end}
use Rattle.volume.proofs.names.name_end.Given as goal

abbrev pub invariant-loop-i : goal.invariant-loop-i
invariant-loop-i l = name_end l.s ≡ name_end (drop l.i l.s)
