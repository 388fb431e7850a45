-- The loop's invariant: the entries from k on are sound by the rule of before if all are, and the counts of those before k are known.
use mathlib.Core.Path.{◌≡◌}
use Prim.Native.Nat.{ℕ, ◌*◌, ◌≤◌, ◌<◌}
use lib.ListN.{drop, length, get_or}
use Rattle.lists.specs.Lists.{all}
use Rattle.volume.specs.Directory.{entries, entry_at}
use Rattle.files.specs.Code.Verdict.{file_before, records_before}
use Rattle.files.proofs.counting.count_all.Given as goal

abbrev pub invariant-loop-k : goal.invariant-loop-k
invariant-loop-k l =
    (l.k ≤ 8 * l.p.dirs)
    × (length l.counts ≡ length l.initial.counts)
    × (all (file_before l.img) (entries l.img) ≡ all (file_before l.img) (drop l.k (entries l.img)))
    × ((j : ℕ) → j < l.k → get_or l.counts j 0 ≡ records_before l.img (entry_at l.img j))
