-- What an accepted allocate does.
use mathlib.Core.Path.{◌≡◌, refl, ap, ◌∙◌}
use mathlib.Core.Bool.{true}
use mathlib.Core.List.{List}
use Prim.Native.Nat.{ℕ}
use native.Mathlib.Omega.{arith}
use lib.ListN.{length}
use borrow.Author.Tests.{ne_eqb, le-leb}
use Rattle.lists.specs.Parts.{sectors}
use Rattle.lists.specs.Lists.{index}
use Rattle.lists.proofs.Tests.{both_true}
use Rattle.volume.specs.Volume.{sat}
use Rattle.volume.specs.Directory.{entries, entry_at, unused, described, entry, fields}
use Rattle.volume.specs.Sat.{lowest_run, run_at}
use Rattle.volume.proofs.EntryFields.{descriptor-length, entry-described, entry-kind, entry-size, entry-start, entry-read_code, entry-record_length}
use Rattle.volume.proofs.RunFound.{run_fits, run_free, run_lowest}
use Rattle.files.specs.Changes.{taken, allocated}
use Rattle.keeping.proofs.AllocateKeeps.{allocate_entry, run_stored, records_none, allocate_owned}
use Rattle.keeping.proofs.FreedSectors.{allocate_takes, lower_used}
use Rattle.keeping.proofs.NamesAfter.{allocate_found, allocate_names}
use Rattle.work.specs.Volumes.{exists, slot_of, new_file}
use Rattle.desk.specs.Desk.{State}
use Rattle.desk.specs.Calls.{allocate, done, quietly}
use Rattle.promises.specs.Filing.{Allocates, AcceptedAllocate}
use Rattle.promises.proofs.Passing.{accepted, carried}
use Rattle.promises.proofs.Told.{AllocateTold, allocate_told}
use Rattle.promises.proofs.Filing.{can_allocate}
use Rattle.files.proofs.allocation.Allocatable.{Allocatable}

module _ (caller : ℕ) (desc : List ℕ) (k n l rc : ℕ) (s : State) (T : AllocateTold s caller desc k n l rc) where
  abbrev v : List ℕ
  v = s.image

  abbrev at : ℕ
  at = index unused (entries v)

  abbrev x : ℕ
  x = lowest_run (taken k n) v

  abbrev e : List ℕ
  e = entry (fields k desc rc l x n)

  abbrev w : List ℕ
  w = allocated at desc k n l rc x v

  abbrev A : Allocatable s.image (index unused (entries s.image)) desc k n l rc (lowest_run (taken k n) s.image)
  A = can_allocate caller desc k n l rc s T

  long : length desc ≡ 20
  long = descriptor-length desc T.described

  was_free : run_at (sat v) (sectors v) (taken k n) x ≡ true
  unfolding run_at
  was_free = both_true _ _ (le-leb _ _ (run_fits (taken k n) v T.run_free)) (run_free (taken k n) v T.run_free)

  its_entry : entry_at w at ≡ e
  its_entry = allocate_entry A

  allocates : Allocates s (carried (allocate caller desc k n l rc) s) desc k n l rc (index unused (entries s.image))
  unfolding done quietly new_file exists slot_of
  allocates = record {
    answered = refl;
    found = allocate_found A;
    was_unused = A.slot_unused;
    lower_used = lower_used v;
    its_name = ap described its_entry ∙ entry-described (fields k desc rc l x n) long;
    its_kind = rw its_entry (entry-kind (fields k desc rc l x n));
    its_size = rw its_entry (entry-size (fields k desc rc l x n) long);
    its_read_code = rw its_entry (entry-read_code (fields k desc rc l x n) long);
    its_record_length = rw its_entry (entry-record_length (fields k desc rc l x n) long);
    zero_filled = λ c. rw its_entry (run_stored A c);
    no_records = λ c. rw its_entry (records_none A (ne_eqb k 0 (λ p. omega arith)));
    its_sectors = rw (its_entry, entry-start (fields k desc rc l x n) long) (allocate_owned A);
    were_free = rw (its_entry, entry-start (fields k desc rc l x n) long) was_free;
    lowest_start = λ y h. run_lowest (taken k n) v y (rw (its_entry, entry-start (fields k desc rc l x n) long) at h);
    still_free = λ y h. rw (its_entry, allocate_owned A) (allocate_takes A y h);
    was_new = T.new_name;
    names_kept = allocate_names A;
    desk_kept = refl;
  }

pub accepted_allocate : AcceptedAllocate
accepted_allocate s caller desc k n l rc h =
    let a = accepted (allocate caller desc k n l rc) s h in
    (index unused (entries s.image), rw a.is (allocates caller desc k n l rc s (allocate_told caller desc k n l rc s a)))
