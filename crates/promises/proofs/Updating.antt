-- Update: exactly that record, and everything else stays.
use mathlib.Core.Path.{◌≡◌, refl, ap, sym, ◌∙◌}
use mathlib.Core.Logic.{◌≢◌, ⊎_elim}
use mathlib.Core.Bool.{Bool, true, false}
use mathlib.Core.List.{List}
use Prim.Native.Nat.{ℕ, ◌<◌}
use native.Mathlib.Omega.{arith}
use lib.ListN.{length, set, length-set}
use Rattle.volume.specs.Directory.{entry_at, contiguous, record_length}
use Rattle.volume.specs.Sat.{free}
use Rattle.volume.proofs.EntryCounted.{alike_refl}
use Rattle.records.specs.Records.{allowed}
use Rattle.files.specs.Files.{extent, records, record_at}
use Rattle.files.specs.Changes.{updated}
use Rattle.files.proofs.replace.RecordUpdated.{updated-Changed, updated-free, updated-sound, updated_entry, records-updated, Bytes-updated}
use Rattle.work.specs.Transfers.{stored_as, moving, updating}
use Rattle.work.proofs.TextRules.{stored_Bytes}
use Rattle.desk.specs.Desk.{State, file_of, aimed}
use Rattle.desk.specs.Calls.{Touch-units, after, update, transferred, done}
use Rattle.promises.specs.Sectors.{Bytes}
use Rattle.promises.specs.Contents.{slot_held, Updated, AcceptedUpdate}
use Rattle.promises.proofs.Told.{UpdateTold, update_told}
use Rattle.promises.proofs.Units.{extent-records, unit_record, record_other}
use Rattle.promises.proofs.PlacesExist.{place_one, units-one}
use Rattle.promises.proofs.Held.{entry_of, Held, Held-by}
use Rattle.promises.proofs.Preserving.{Preserves, Rewrites, transferred_to, Preserves-sent, Preserves-rewrite}
use Rattle.promises.proofs.Appending.{right_length}
use Rattle.promises.proofs.Passing.{accepted, carried}
use Rattle.promises.proofs.OneLun.{only_moved}

module _
    (caller lun sel num : ℕ) (fmt : Bool) (bs : List ℕ) (s : State) (bi : Bytes s.image)
    (T : UpdateTold s caller lun sel num (stored_as fmt (file_of s lun) bs)) where
  abbrev v : List ℕ
  v = s.image

  abbrev k : ℕ
  k = slot_held s lun

  abbrev e : List ℕ
  e = entry_of s lun

  abbrev i : ℕ
  i = aimed s lun sel num

  abbrev ss : List ℕ
  ss = stored_as fmt e bs

  abbrev v' : List ℕ
  v' = updated e i ss v

  H : Held s lun
  H = Held-by s caller lun T.opened.is_ready T.opened.is_mine

  sequential : contiguous e ≡ false
  unfolding file_of
  sequential = T.sequential

  there : i < length (records v e)
  unfolding file_of
  there = omega (arith, T.there, extent-records v e sequential)

  fine : allowed (record_length e) ss ≡ true
  unfolding file_of
  fine = right_length e ss sequential T.long_ok

  long : length ss ≡ length (record_at v e i)
  unfolding file_of
  long = T.same_length

  pub update_entry : entry_at (updated (entry_of s lun) (aimed s lun sel num) (stored_as fmt (entry_of s lun) bs) s.image) (slot_held s lun) ≡ entry_of s lun
  update_entry = updated_entry v H.facts_of k H.slot_in H.lun_ok.used sequential bi i ss there fine long

  pub update_records : records (updated (entry_of s lun) (aimed s lun sel num) (stored_as fmt (entry_of s lun) bs) s.image) (entry_of s lun)
      ≡ set (records s.image (entry_of s lun)) (aimed s lun sel num) (stored_as fmt (entry_of s lun) bs)
  update_records = records-updated v H.facts_of k H.slot_in H.lun_ok.used sequential bi i ss there fine long

  extent_after : extent v' e ≡ extent v e
  extent_after =
      extent-records v' e sequential ∙ ap length update_records ∙ length-set (records v e) i ss ∙ sym (extent-records v e sequential)

  pub update_free : free (updated (entry_of s lun) (aimed s lun sel num) (stored_as fmt (entry_of s lun) bs) s.image) ≡ free s.image
  update_free = updated-free v H.facts_of k H.slot_in H.lun_ok.used sequential bi i ss there fine long

  rewrites : Rewrites s lun ss v' i 1
  rewrites = record {
    ws = _;
    entry = e;
    changed = updated-Changed v H.facts_of k H.slot_in H.lun_ok.used sequential bi i ss there fine long;
    same = alike_refl e;
    is_sound = updated-sound v H.facts_of k H.slot_in H.lun_ok.used sequential bi i ss there fine long H.counts_of;
    are_bytes = λ z. Bytes-updated v H.facts_of k H.slot_in H.lun_ok.used sequential bi i ss there fine long;
    as_long = omega (arith, extent_after);
    place = place_one v' e i sequential (omega (arith, there, extent-records v e sequential, extent_after));
    elsewhere = λ u l h.
        let n : u ≢ i = ⊎_elim (λ x p. omega arith) (λ x p. omega arith) h in
        unit_record v' e u sequential ∙ record_other v v' e u i ss n update_records ∙ sym (unit_record v e u sequential);
  }

  pub Preserves-update : Preserves bs (Touch-units (slot_held s lun) (aimed s lun sel num) 1) s
      (transferred_to s lun (updating s.image (file_of s lun) (aimed s lun sel num) fmt bs))
  unfolding file_of updating moving after
  Preserves-update =
      Preserves-sent bs ss _ s _ (stored_Bytes fmt e bs) (rw (units-one e (length bs) sequential) (Preserves-rewrite s bi lun ss v' i 1 H rewrites))

  did : Updated s (carried (update caller lun sel num fmt bs) s) lun (aimed s lun sel num) bs (stored_as fmt (file_of s lun) bs)
  unfolding file_of done transferred updating moving
  did = record {
    answered = refl;
    entry_same = update_entry;
    sequential = sequential;
    there = there;
    same_length = long ∙ ap length (sym (unit_record v e i sequential));
    replaced = update_records;
    record_moved = only_moved s lun (updating v e i fmt bs) 1 (units-one e (length bs) sequential) H;
  }

pub accepted_update : AcceptedUpdate
accepted_update s bi caller lun sel num fmt bs h =
    let a = accepted (update caller lun sel num fmt bs) s h in
    rw a.is (did caller lun sel num fmt bs s bi (update_told caller lun sel num fmt bs s a))
