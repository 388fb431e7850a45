use mathlib.Core.Path.{◌≡◌}
use Prim.Native.Nat.{ℕ, ◌≤◌, ◌<◌, ◌-◌, ◌^◌}
use Rattle.volume.specs.Code.Searches.{bit_at, row_at}
use Rattle.volume.proofs.quads.first_row.Given as goal

abbrev pub invariant-loop-m : goal.invariant-loop-m
invariant-loop-m l = (1 ≤ l.m) × (l.m ≤ l.n) × (l.rows < 2 ^ 64) × ((k : ℕ) → k < 64 → bit_at 64 l.rows k ≡ row_at l.x l.m k)

abbrev pub decreases-loop-m : goal.decreases-loop-m
decreases-loop-m l = l.n - l.m
