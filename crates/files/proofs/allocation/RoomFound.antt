-- What allocate finds is what its writers ask.
use mathlib.Core.Path.{sym, ◌∙◌}
use mathlib.Core.Bool.{true≢false}
use mathlib.Core.List.{List}
use Prim.Native.Nat.{ℕ, ◌<◌}
use native.Mathlib.Omega.{arith}
use Rattle.lists.specs.Lists.{range}
use Rattle.lists.proofs.Tests.{is_false}
use Rattle.lists.proofs.Lists.{all-among}
use Rattle.volume.specs.Volume.{sat_at, sat}
use Rattle.volume.specs.Sat.{is_free}
use Rattle.volume.specs.Code.Located.{Located}
use Rattle.volume.specs.declared.locate.Layout.{Layout}
use Rattle.volume.proofs.EntryFields.{descriptor-length}
use Rattle.files.specs.Changes.{taken}
use Rattle.files.specs.Code.Room.{Room}
use Rattle.files.proofs.allocation.Allocatable.{Sized, run_of, records_of, Allocatable, sizes}
use Rattle.files.proofs.SoundFacts.{Facts, facts}
use Rattle.files.proofs.EntryAndSatWritten.{in_sat}
use Rattle.files.proofs.appending.GrownBlock.{Part-system}
use Rattle.files.proofs.SoundSat.{free_unowned}

small : (k n l : ℕ) → Sized k n l → (n < 65536) × (l < 65536)
small k n l (run_of a b c d) = (omega arith, omega arith)
small k n l (records_of a b c) = (omega arith, omega arith)

-- the table's own sector is marked, so no free run has it
pub room : (v : List ℕ) (p : Layout) (at : ℕ) (d : List ℕ) (k n l rc s : ℕ) → Located v p → Allocatable v at d k n l rc s → Room v p at d k n l s
room v p at d k n l rc s h a =
    let F : Facts v = facts v a.is_sound in
    let z = small k n l (sizes k n l a.numbers) in
    record {
      located = h;
      slot = omega (arith, a.slot_in, h.is_dirs);
      described = descriptor-length d a.well_described;
      kind = a.known_kind;
      size = z.0;
      long = z.1;
      inside = omega (arith, a.inside, h.is_t);
      table_out = rw h.is_sat
          (is_false _ (λ m.
          true≢false (sym (Part-system v F (sat_at v) (in_sat v))
          ∙ free_unowned v F (sat_at v) F.sat_in (all-among (is_free (sat v)) (range s (taken k n)) (sat_at v) a.all_free m))));
    }
