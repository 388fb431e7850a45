-- The SAT of a sound volume: its bytes, the sectors that have a bit in it, and that no free sector is owned.
use mathlib.Core.Path.{◌≡◌, ap, sym, ◌∙◌}
use mathlib.Core.Bool.{true, false}
use mathlib.Core.List.{List, []}
use Prim.Native.Nat.{ℕ, ◌*◌, ◌<◌}
use native.Mathlib.Omega.{arith}
use lib.ListN.{length}
use lib.Dec.{ltb}
use borrow.Author.Tests.{ltb-true, lt-ltb, not-true}
use Rattle.numbers.specs.Numbers.{most_sectors}
use Rattle.lists.specs.Lists.{all, among}
use Rattle.lists.specs.Parts.{sectors}
use Rattle.lists.proofs.Tests.{or_right, or_second}
use Rattle.lists.proofs.Lists.{all_ext, all_at, all-among, among-append}
use Rattle.lists.proofs.Keeps.{among-append_left}
use Rattle.lists.proofs.AreBytes.{Bytes}
use Rattle.volume.specs.Volume.{dirs, sat, system}
use Rattle.volume.specs.Directory.{entries, entry_at}
use Rattle.volume.specs.Sat.{marked, owns, is_free}
use Rattle.volume.proofs.Bits.{length-sat_of, marked-sat_of}
use Rattle.volume.proofs.BitsSet.{sat_numbers}
use Rattle.volume.proofs.SatChanged.{Bytes-sat_of}
use Rattle.volume.proofs.Slots.{length-entries}
use Rattle.ownership.specs.Blocks.{placed}
use Rattle.ownership.specs.Owners.{owned, all_owned}
use Rattle.ownership.proofs.BlockFacts.{owned-within}
use Rattle.files.proofs.SoundFacts.{Facts}
use Rattle.files.proofs.Kept.FileSame.{clear}
use Rattle.files.proofs.OwnersApart.{clear_by, clear_at, clear_flip, owned_member}

module _ (v : List ℕ) (F : Facts v) where
  pub length-sat : length (sat v) ≡ 256
  length-sat = ap length F.sat_right ∙ length-sat_of (sectors v) (all_owned v)

  pub Bytes-sat : Bytes (sat v)
  Bytes-sat = rw F.sat_right (Bytes-sat_of (sectors v) (all_owned v))

  pub below_table : (ss : List ℕ) → all (λ u. ltb u (sectors v)) ss ≡ true → sat_numbers ss ≡ true
  below_table ss h =
      all_ext (λ u. ltb u (sectors v)) (λ u. ltb u (sectors v)) (λ u. ltb u most_sectors) ss
      (λ u p q. let l : u < sectors v = ltb-true _ _ p in lt-ltb u most_sectors (omega (arith, F.high))) h h

  pub slot_below : (k : ℕ) → k < 8 * dirs v → all (λ u. ltb u (sectors v)) (owned v (entry_at v k)) ≡ true
  unfolding entry_at
  slot_below k h = owned-within v (entry_at v k) (all_at (placed v) (entries v) k [] F.each_placed (omega (arith, length-entries v)))

  -- a free sector of the volume is nobody's
  pub free_unowned : (u : ℕ) → u < sectors v → is_free (sat v) u ≡ true → among u (all_owned v) ≡ false
  unfolding is_free owns
  free_unowned u l h =
      let m : marked (sat v) u ≡ owns (sectors v) (all_owned v) u = ap (λ (b : List ℕ). marked b u) F.sat_right
      ∙ marked-sat_of (sectors v) (all_owned v) u (omega (arith, F.high)) in
      or_right _ _ (sym m ∙ not-true _ h)

  -- so are free sectors together: neither the system's, nor a file's
  module _ (ss : List ℕ) (below : all (λ u. ltb u (sectors v)) ss ≡ true) (frees : all (is_free (sat v)) ss ≡ true) where
    pub frees_unowned : clear (all_owned v) ss ≡ true
    frees_unowned =
        clear_by (all_owned v) ss (λ u m. free_unowned u (ltb-true _ _ (all-among (λ x. ltb x (sectors v)) ss u below m)) (all-among (is_free (sat v)) ss u frees m))

    pub frees_not_system : clear (system v) ss ≡ true
    unfolding all_owned
    frees_not_system = clear_by (system v) ss (λ u m. among-append_left u (system v) _ (clear_at (all_owned v) ss u frees_unowned m))

    pub frees_not_slot : (i : ℕ) → i < 8 * dirs v → clear ss (owned v (entry_at v i)) ≡ true
    unfolding all_owned
    frees_not_slot i h =
        clear_by ss (owned v (entry_at v i)) (λ u m.
        clear_at ss (all_owned v) u (clear_flip (all_owned v) ss frees_unowned) (among-append u (system v) _ ∙ or_second _ _ (owned_member v F i u h m)))
