-- The run that the search finds lies inside, is free, and is the lowest; a run's sectors are one part of the image.
use mathlib.Core.Path.{◌≡◌, sym}
use mathlib.Core.Bool.{true, false}
use mathlib.Core.List.{List}
use Prim.Native.Nat.{ℕ, ◌+◌, ◌≤◌, ◌<◌, zero, suc, ◌*◌}
use native.Mathlib.Omega.{arith}
use borrow.Author.Tests.{leb-true}
use Rattle.lists.specs.Lists.{range, all, flat}
use Rattle.lists.specs.Parts.{sectors, part, sector}
use Rattle.lists.proofs.Tests.{and_left, and_right}
use Rattle.lists.proofs.IndexFound.{first_holds, first_before}
use Rattle.lists.proofs.RangeParts.{sectors_first, part_none}
use Rattle.volume.specs.Volume.{sat}
use Rattle.volume.specs.Sat.{is_free, run_at, lowest_run}

module _ (n : ℕ) (v : List ℕ) where
  found : lowest_run n v < sectors v → run_at (sat v) (sectors v) n (lowest_run n v) ≡ true
  unfolding lowest_run
  found h = first_holds (run_at (sat v) (sectors v) n) 0 (sectors v) (omega arith)

  pub run_fits : lowest_run n v < sectors v → lowest_run n v + n ≤ sectors v
  unfolding run_at
  run_fits h = leb-true _ _ (and_left _ _ (found h))

  pub run_free : lowest_run n v < sectors v → all (is_free (sat v)) (range (lowest_run n v) n) ≡ true
  unfolding run_at
  run_free h = and_right _ _ (found h)

  pub run_lowest : (s : ℕ) → s < lowest_run n v → run_at (sat v) (sectors v) n s ≡ false
  unfolding lowest_run
  run_lowest s h = first_before (run_at (sat v) (sectors v) n) 0 (sectors v) s (omega arith) h

-- consecutive sectors, one after the other, are one part of the image
pub sectors_part : (s n : ℕ) (l : List ℕ) → flat (λ u. sector u l) (range s n) ≡ part (256 * s) (256 * n) l
unfolding flat range
sectors_part s zero l = sym (part_none (256 * s) l)
sectors_part s (suc n) l = rw (sectors_part (suc s) n l) (sym (sectors_first s n l))
