-- What an accepted delete does.
use mathlib.Core.Path.{◌≡◌, refl, sym, ◌∙◌}
use mathlib.Core.Bool.{true, false}
use mathlib.Core.List.{List}
use mathlib.Core.Logic.{◌≢◌}
use Prim.Native.Nat.{ℕ}
use Rattle.lists.specs.Parts.{sector}
use Rattle.lists.specs.Lists.{among}
use Rattle.lists.proofs.Tests.{is_false}
use Rattle.lists.proofs.Lists.{same-true}
use Rattle.volume.specs.Volume.{system}
use Rattle.volume.specs.Directory.{entry_at, named}
use Rattle.ownership.specs.Owners.{owned}
use Rattle.files.specs.Files.{sound}
use Rattle.files.specs.Changes.{deleted}
use Rattle.files.proofs.SoundFacts.{facts}
use Rattle.files.proofs.EntryAndSatWritten.{not_system}
use Rattle.files.proofs.OwnersApart.{clear_at, system_apart}
use Rattle.keeping.proofs.DeleteKeeps.{delete_entry, delete_elsewhere}
use Rattle.keeping.proofs.FreedSectors.{delete_frees}
use Rattle.keeping.proofs.NamesAfter.{delete_lost, delete_names}
use Rattle.work.specs.Volumes.{exists, slot_of}
use Rattle.desk.specs.Desk.{State}
use Rattle.desk.specs.Calls.{delete, done, quietly}
use Rattle.promises.specs.Filing.{Deletes, AcceptedDelete}
use Rattle.promises.proofs.Passing.{accepted, carried}
use Rattle.promises.proofs.Told.{NamedTold, DeleteTold, delete_told}
use Rattle.promises.proofs.Held.{ready_sound}
use Rattle.promises.proofs.NamedFile.{file_there, file_named}

module _ (caller : ℕ) (desc : List ℕ) (s : State) (T : DeleteTold s caller desc) where
  abbrev v : List ℕ
  v = s.image

  abbrev at : ℕ
  at = slot_of v desc

  is_sound : sound v ≡ true
  is_sound = ready_sound s T.is_ready

  N : NamedTold v desc
  N = T.named_file

  other_name : (d : List ℕ) → d ≢ desc → named d (entry_at v at) ≡ false
  unfolding named
  other_name d n = is_false _ (λ h. n (same-true _ _ h ∙ sym (same-true _ _ (file_named N))))

  bytes_stay : (u : ℕ) → among u (owned v (entry_at v at)) ≡ true → sector u (deleted at v) ≡ sector u v
  bytes_stay u h =
      delete_elsewhere v at is_sound (file_there N) u
      (not_system v u (clear_at (system v) (owned v (entry_at v at)) u (system_apart v (facts v is_sound) at (file_there N)) h))

  deletes : Deletes s (carried (delete caller desc) s) desc (slot_of s.image desc)
  unfolding done quietly exists slot_of
  deletes = record {
    answered = refl;
    was_found = (N.found, refl);
    is_lost = delete_lost v at is_sound (file_there N) desc N.described (file_named N);
    is_unused = delete_entry v at is_sound (file_there N);
    names_kept = λ d hd n. delete_names v at is_sound (file_there N) d hd (other_name d n);
    freed = delete_frees v at is_sound (file_there N);
    bytes_stay = bytes_stay;
    desk_kept = refl;
  }

pub accepted_delete : AcceptedDelete
accepted_delete s caller desc h =
    let a = accepted (delete caller desc) s h in
    (slot_of s.image desc, rw a.is (deletes caller desc s (delete_told caller desc s a)))
