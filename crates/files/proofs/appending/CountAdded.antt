-- The record count of a file that was lengthened: its entry is where it was, and with one record more it makes the append.
use mathlib.Core.Path.{◌≡◌, ap, sym, ◌∙◌}
use mathlib.Core.List.{List, ◌++◌}
use Prim.Native.Nat.{ℕ, ◌+◌, ◌*◌, ◌<◌}
use native.Mathlib.Omega.{arith}
use Rattle.lists.specs.Lists.{range}
use Rattle.lists.specs.Parts.{part, put}
use Rattle.volume.specs.Directory.{entry_at, record_count, counted_as, put_entry}
use Rattle.volume.specs.Volume.{sat_at, dir_at, dirs}
use Rattle.volume.specs.Code.Located.{entry_byte, EntryIn}
use Rattle.volume.specs.declared.locate.Layout.{Layout}
use Rattle.volume.proofs.EntryCounted.{counted_sequential}
use Rattle.volume.proofs.LayoutKept.{keeps_dir_at, keeps_dirs}
use Rattle.volume.proofs.Slots.{entry_part}
use Rattle.ownership.specs.Owners.{owned}
use Rattle.files.specs.Changes.{new_sectors, lengthened, one_more, appended}
use Rattle.files.specs.Code.Growing.{Takes}
use Rattle.files.proofs.Bounds.{records_few}
use Rattle.files.proofs.OneFileChanged.{Changed, entry_here}
use Rattle.files.proofs.slot.SlotInUse.{slot_in, used_Facts, used_count}
use Rattle.files.proofs.appending.FileLengthened.{lengthened-Changed}

module _ (v : List ℕ) (p : Layout) (k : ℕ) (r : List ℕ) (T : Takes v p k r) where
  abbrev e : List ℕ
  e = entry_at v k

  abbrev w : List ℕ
  w = lengthened e r v

  ws : List ℕ
  ws = (owned v e ++ new_sectors v e r) ++ range (sat_at v) 1

  C : Changed v w k e ws
  unfolding ws
  C =
      lengthened-Changed v (used_Facts v p k T.adds.file) k (slot_in v p k T.adds.file) T.adds.file.used T.adds.sequential r T.adds.fine
      T.enough T.few

  same_dir_at : dir_at w ≡ dir_at v
  same_dir_at = keeps_dir_at ws v w C.keeps C.last_out

  same_dirs : dirs w ≡ dirs v
  same_dirs = keeps_dirs ws v w C.keeps C.last_out

  entry_there : part (entry_byte p k) 32 w ≡ e
  entry_there =
      ap (λ (d : ℕ). part (256 * d + 32 * k) 32 w) (T.adds.file.located.is_dir ∙ sym same_dir_at)
      ∙ sym (entry_part w k (omega (arith, C.slot, same_dirs))) ∙ entry_here v w k e ws C

  pub added_in : (x : List ℕ) → x ≡ lengthened (entry_at v k) r v → EntryIn x p k
  added_in x ex = rw ex (record {
    places = omega (arith, T.adds.file.located.dir_in, T.adds.file.located.high);
    slot = omega (arith, T.adds.file.slot, T.adds.file.located.few_dirs);
    inside = omega (arith, C.keeps.long, T.adds.file.located.dir_in, T.adds.file.located.long, T.adds.file.slot);
  })

  pub added_small : record_count (entry_at v k) + 1 < 4294967296
  added_small = omega (arith, used_count v p k T.adds.file T.adds.sequential, records_few v p k T.adds.file T.adds.sequential)

  pub added_is : (n : ℕ) (x z : List ℕ) → n ≡ record_count (entry_at v k) → x ≡ lengthened (entry_at v k) r v
      → z ≡ put (entry_byte p k) (counted_as (n + 1) (part (entry_byte p k) 32 x)) x → z ≡ appended k r v
  unfolding appended put_entry one_more
  added_is n x z en ex ez =
      ez
      ∙ rw (ex, en, entry_there, counted_sequential (record_count e + 1) e T.adds.file.used T.adds.sequential, T.adds.file.located.is_dir)
