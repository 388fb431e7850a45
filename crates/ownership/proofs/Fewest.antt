-- Sectors joined to nothing, one after the other, make the fewest segments: no shorter list of segments gives them in the same order.
use mathlib.Core.Path.{◌≡◌, refl, ap}
use mathlib.Core.Bool.{Bool, true, false}
use mathlib.Core.List.{List, [], ◌∷◌}
use Prim.Native.Nat.{ℕ, zero, suc, ◌+◌, ◌≤◌}
use native.Mathlib.Omega.{arith}
use lib.ListN.{length, length-append}
use Rattle.lists.specs.Lists.{range, flat}
use Rattle.ownership.specs.Blocks.{seg_start, seg_length, segment, extended_by}
use Rattle.ownership.specs.Code.Shapes.{pair, follows}
use Rattle.ownership.proofs.Segments.{length-lengthened, flat-extended_by}
use Rattle.ownership.proofs.SegmentRuns.{extended_by-append, run_on, run_new}

-- one more segment's sectors make at most one segment more
run_adds : (ps : List (List ℕ)) (s n : ℕ) → length (extended_by ps (range s n)) ≤ length ps + 1
unfolding extended_by range
run_adds ps s zero = omega arith
run_adds ps s (suc m) = go (follows ps s) refl
  where
    go : (b : Bool) → follows ps s ≡ b → length (extended_by ps (range s (suc m))) ≤ length ps + 1
    go true e = omega (arith, ap length (run_on ps s m e), length-lengthened ps (suc m))
    go false e = omega (arith, ap length (run_new ps s m e), length-append ps (pair s (suc m) ∷ []))

segments_add : (qs ps : List (List ℕ)) → length (extended_by qs (flat segment ps)) ≤ length qs + length ps
unfolding flat segment extended_by
segments_add qs [] = omega arith
segments_add qs (p ∷ ps) =
    omega (
      arith,
      ap length (extended_by-append qs (segment p) (flat segment ps)),
      segments_add (extended_by qs (segment p)) ps,
      run_adds qs (seg_start p) (seg_length p),
    )

pub fewest : (ps : List (List ℕ)) → length (extended_by [] (flat segment ps)) ≤ length ps
fewest ps = omega (arith, segments_add [] ps)

-- as a reader asks it: whatever segments give an order, those that are joined give it too, and are no more
pub fewest_order : (ps : List (List ℕ)) (ss : List ℕ) → flat segment ps ≡ ss → length (extended_by [] ss) ≤ length ps
fewest_order ps ss e = rw e at (fewest ps)

pub gives_order : (ss : List ℕ) → flat segment (extended_by [] ss) ≡ ss
unfolding flat
gives_order ss = flat-extended_by [] ss
