use mathlib.Core.Path.{◌≡◌}
use mathlib.Core.Bool.{Bool}
use mathlib.Core.List.{List, []}
use Prim.Native.Nat.{ℕ}
use lib.ListN.{length}
use Rattle.lists.specs.Lists.{flat}
use Rattle.volume.specs.Directory.{entries}
use Rattle.volume.specs.Code.Used.{used_entries}
use Rattle.ownership.specs.Code.Claims.{Claims}
use Rattle.ownership.specs.Owners.{owned}
use Rattle.ownership.proofs.ClaimsFollow.{Rest}
use Rattle.ownership.proofs.owners.claim_entries.Given as goal

-- the claims of the entries in use that are left, over the marks as they are, are the claims of all
abbrev pub invariant-loop-i : goal.invariant-loop-i
invariant-loop-i l =
    let img = l.u.volume.img.now in
    (l.i-end ≡ length l.u.slots.now) × (length l.marks ≡ length l.initial.marks)
    × ((r : Bool) (m : List ℕ) → Rest (owned img) (used_entries img) [] l.i l.marks r m → Claims (flat (owned img) (entries img)) l.initial.marks r m)
