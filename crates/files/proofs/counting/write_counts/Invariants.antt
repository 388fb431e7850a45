-- The loop's invariant: the entries before k have their counts.
use mathlib.Core.Path.{◌≡◌}
use Prim.Native.Nat.{◌*◌, ◌≤◌}
use lib.ListN.{length}
use Rattle.volume.proofs.EntriesMade.{made_to}
use Rattle.files.specs.Changes.{counted_in}
use Rattle.files.proofs.counting.write_counts.Given as goal

abbrev pub invariant-loop-k : goal.invariant-loop-k
invariant-loop-k l = (length l.img ≡ length l.initial.img) × (l.k ≤ 8 * l.p.dirs) × (l.img ≡ made_to (counted_in l.initial.img) l.initial.img l.k)
