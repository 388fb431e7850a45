-- Write to a sequential file: one record more, and everything else stays.
use mathlib.Core.Path.{◌≡◌, ap, sym, ◌∙◌}
use mathlib.Core.Bool.{true, false}
use mathlib.Core.List.{List, [], ◌∷◌, ◌++◌}
use Prim.Native.Nat.{ℕ, ◌≤◌, ◌+◌, ◌<◌}
use native.Mathlib.Omega.{arith}
use lib.ListN.{length, length-append}
use borrow.Author.Tests.{not-false, ltb-false}
use Rattle.numbers.specs.Numbers.{most_segments}
use Rattle.volume.specs.Directory.{contiguous, record_length, record_count, entry_at, SameButCount}
use Rattle.volume.specs.Sat.{free}
use Rattle.records.specs.Records.{allowed}
use Rattle.files.specs.Files.{extent, records}
use Rattle.files.specs.Changes.{needed, new_pairs, one_more, appended}
use Rattle.keeping.proofs.AppendBytes.{Bytes-appended}
use Rattle.keeping.proofs.AppendKeeps.{appended-Changed, appended-sound, appended_entry, appended_count, one_more_same, records-appended}
use Rattle.work.specs.Transfers.{wrong_length, beyond}
use Rattle.desk.specs.Desk.{State, file_of, aimed}
use Rattle.promises.specs.Contents.{slot_held}
use Rattle.promises.proofs.Held.{entry_of, Held, Held-by}
use Rattle.promises.proofs.Told.{WriteTold}
use Rattle.promises.proofs.Units.{extent-records, unit_record, record_before}
use Rattle.promises.proofs.PlacesExist.{place_one}
use Rattle.promises.proofs.Preserving.{Rewrites}

pub right_length : (e bs : List ℕ) → contiguous e ≡ false → wrong_length e bs ≡ false → allowed (record_length e) bs ≡ true
unfolding wrong_length
right_length e bs q h = not-false _ (rw q at h)

not_beyond : (v e : List ℕ) (i n : ℕ) → contiguous e ≡ false → beyond v e i n ≡ false → i ≤ extent v e
unfolding beyond
not_beyond v e i n q h = ltb-false _ _ (rw q at h)

-- what an accepted write says of a sequential file
pub record Appending (s : State) (lun i : ℕ) (ss : List ℕ) : Type 0 where
  pub held_file : Held s lun
  pub sequential : contiguous (entry_of s lun) ≡ false
  pub at_end : i ≡ length (records s.image (entry_of s lun))
  pub fine : allowed (record_length (entry_of s lun)) ss ≡ true
  pub enough : needed s.image (entry_of s lun) ss ≤ free s.image
  pub few : length (new_pairs s.image (entry_of s lun) ss) ≤ most_segments

pub appending : (caller lun sel num : ℕ) (ss : List ℕ) (s : State) → WriteTold s caller lun sel num ss → contiguous (entry_of s lun) ≡ false
    → Appending s lun (aimed s lun sel num) ss
unfolding file_of
appending caller lun sel num ss s T q =
    let e : List ℕ = entry_of s lun in
    record {
      held_file = Held-by s caller lun T.opened.is_ready T.opened.is_mine;
      sequential = q;
      at_end = omega (arith, not_beyond s.image e (aimed s lun sel num) (length ss) q T.inside, T.is_new q, extent-records s.image e q);
      fine = right_length e ss q T.long_ok;
      enough = T.enough q;
      few = T.few q;
    }

module _ (s : State) (lun i : ℕ) (ss : List ℕ) (A : Appending s lun i ss) where
  abbrev v : List ℕ
  v = s.image

  abbrev k : ℕ
  k = slot_held s lun

  abbrev e : List ℕ
  e = entry_of s lun

  abbrev v' : List ℕ
  v' = appended k ss v

  abbrev H : Held s lun
  H = A.held_file

  pub append_entry : entry_at (appended (slot_held s lun) ss s.image) (slot_held s lun) ≡ one_more (entry_of s lun)
  append_entry = appended_entry v H.facts_of k H.slot_in H.lun_ok.used A.sequential ss A.fine A.enough A.few

  pub append_same : SameButCount (entry_of s lun) (one_more (entry_of s lun))
  append_same = one_more_same v H.facts_of k H.slot_in H.lun_ok.used A.sequential ss A.fine A.enough A.few

  pub append_count : record_count (one_more (entry_of s lun)) ≡ record_count (entry_of s lun) + 1
  append_count = appended_count v H.facts_of k H.slot_in H.lun_ok.used A.sequential ss A.fine A.enough A.few

  pub append-records : records (appended (slot_held s lun) ss s.image) (entry_of s lun) ≡ records s.image (entry_of s lun) ++ (ss ∷ [])
  append-records = records-appended v H.facts_of k H.slot_in H.lun_ok.used A.sequential ss A.fine A.enough A.few

  extent_after : extent v' e ≡ extent v e + 1
  extent_after =
      extent-records v' e A.sequential
      ∙ ap length append-records
      ∙ length-append (records v e) (ss ∷ [])
      ∙ ap (λ (m : ℕ). m + 1) (sym (extent-records v e A.sequential))

  pub append_there : i < extent (appended (slot_held s lun) ss s.image) (entry_of s lun)
  append_there = omega (arith, A.at_end, extent-records v e A.sequential, extent_after)

  pub append_Rewrites : Rewrites s lun ss (appended (slot_held s lun) ss s.image) i 1
  append_Rewrites = record {
    ws = _;
    entry = one_more e;
    changed = appended-Changed v H.facts_of k H.slot_in H.lun_ok.used A.sequential ss A.fine A.enough A.few;
    same = append_same;
    is_sound = appended-sound v H.facts_of k H.slot_in H.lun_ok.used A.sequential ss A.fine A.enough A.few H.counts_of;
    are_bytes = λ bi b. Bytes-appended v H.facts_of k H.slot_in H.lun_ok.used A.sequential ss A.fine A.enough A.few bi b H.counts_of;
    as_long = omega (arith, extent_after);
    place = place_one v' e i A.sequential append_there;
    elsewhere = λ u l h.
        unit_record v' e u A.sequential
        ∙ record_before v v' e u ss (omega (arith, extent-records v e A.sequential)) append-records
        ∙ sym (unit_record v e u A.sequential);
  }
