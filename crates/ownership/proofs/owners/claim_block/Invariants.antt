use mathlib.Core.Path.{◌≡◌}
use mathlib.Core.Bool.{Bool}
use mathlib.Core.List.{List, []}
use Prim.Native.Nat.{ℕ}
use lib.ListN.{length}
use Rattle.ownership.specs.Code.Claims.{Claims}
use Rattle.ownership.specs.Blocks.{segment, pairs, sectors_of}
use Rattle.ownership.proofs.ClaimsFollow.{Rest}
use Rattle.ownership.proofs.owners.claim_block.Given as goal

abbrev pub invariant-loop-pair : goal.invariant-loop-pair
invariant-loop-pair l =
    (length l.marks ≡ length l.initial.marks)
    × ((r : Bool) (m : List ℕ) → Rest segment (pairs l.f) [] l.pair-index l.marks r m → Claims (sectors_of l.f) l.initial.marks r m)
