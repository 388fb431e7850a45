-- The loop's invariant: what is left fits as the whole does.
use mathlib.Core.Path.{◌≡◌}
use lib.ListN.{length}
use Rattle.luns.proofs.Walks.{left_fits}
use Rattle.luns.proofs.fits.fits.Given as goal

abbrev pub invariant-loop-rest : goal.invariant-loop-rest
invariant-loop-rest l = left_fits l.v.img.now l.initial.rest ≡ left_fits l.v.img.now l.rest

abbrev pub decreases-loop-rest : goal.decreases-loop-rest
decreases-loop-rest l = length l.rest
