-- Free sectors of a sound volume: exactly those that nobody owns, how many there are, and what a change of one file makes of that number.
use mathlib.Core.Path.{◌≡◌, ap, ◌∙◌}
use mathlib.Core.Bool.{true, not}
use mathlib.Core.List.{List}
use Prim.Native.Nat.{ℕ, ◌+◌, ◌<◌}
use native.Mathlib.Omega.{arith}
use lib.ListN.{length, length-append}
use lib.Dec.{ltb}
use borrow.Author.Tests.{ltb-true, lt-leb}
use Rattle.lists.specs.Lists.{◌or◌, range, kept, among, all}
use Rattle.lists.specs.Parts.{sectors}
use Rattle.lists.proofs.Lists.{all_ext, all-among}
use Rattle.lists.proofs.Keeps.{range_out}
use Rattle.lists.proofs.RangeParts.{distinct-range}
use Rattle.lists.proofs.Ranges.{length-range, range_below}
use Rattle.lists.proofs.KeptCount.{kept_same, outside}
use Rattle.volume.specs.Volume.{sat, layout_of}
use Rattle.volume.specs.Directory.{entry_at}
use Rattle.volume.specs.Sat.{marked, is_free, owns, free_sectors, free}
use Rattle.volume.proofs.Bits.{marked-sat_of}
use Rattle.volume.proofs.Located.{Located-sound}
use Rattle.ownership.specs.Owners.{owned, all_owned}
use Rattle.ownership.proofs.BlockFacts.{all_owned-within}
use Rattle.files.proofs.SoundFacts.{Facts}
use Rattle.files.proofs.OneFileChanged.{Changed, sectors_kept, owned_was, owned_now}

-- a sector of a sound volume is free exactly if nobody owns it
pub free_is : (v : List ℕ) → Facts v → (x : ℕ) → x < sectors v → is_free (sat v) x ≡ not (among x (all_owned v))
unfolding is_free owns ◌or◌
free_is v F x h =
    let m : marked (sat v) x ≡ among x (all_owned v) =
    ap (λ (b : List ℕ). marked b x) F.sat_right ∙ marked-sat_of (sectors v) (all_owned v) x (omega (arith, F.high)) ∙ rw (lt-leb (sectors v) x h) in
    ap not m

-- every sector is free or owned
pub free_and_owned : (v : List ℕ) → Facts v → free v + length (all_owned v) ≡ sectors v
unfolding free free_sectors
free_and_owned v F =
    let below = all_owned-within v (layout_of v) (Located-sound v F.one) F.three in
    let all_in : all (λ y. among y (range 0 (sectors v))) (all_owned v) ≡ true =
    all_ext _ _ _ (all_owned v) (λ y a b. range_out y 0 (sectors v) (omega arith) (omega (arith, ltb-true y (sectors v) a))) below below in
    let same : kept (is_free (sat v)) (range 0 (sectors v)) ≡ kept (λ x. not (among x (all_owned v))) (range 0 (sectors v)) =
    kept_same (λ x. not (among x (all_owned v))) (is_free (sat v)) (range 0 (sectors v)) (λ x m.
    free_is v F x (ltb-true _ _ (all-among (λ u. ltb u (sectors v)) (range 0 (sectors v)) x (range_below (sectors v) 0 (sectors v) (omega arith)) m))) in
    ap (λ (l : List ℕ). length l + length (all_owned v)) same
    ∙ outside (range 0 (sectors v)) (all_owned v) (distinct-range 0 (sectors v)) F.none_twice all_in ∙ length-range 0 (sectors v)

-- one file changed: what it owned and owns settles the count
pub Changed-free : (v v' : List ℕ) (k : ℕ) (e' ws : List ℕ) → Changed v v' k e' ws → Facts v → Facts v'
    → free v' + length (owned v' e') ≡ free v + length (owned v (entry_at v k))
Changed-free v v' k e' ws C F G =
    omega (
      arith,
      free_and_owned v F,
      free_and_owned v' G,
      sectors_kept v v' k e' ws C,
      simp length-append at (ap length (owned_was v v' k e' ws C)),
      simp length-append at (ap length (owned_now v v' k e' ws C)),
    )
