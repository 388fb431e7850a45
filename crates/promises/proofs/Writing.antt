-- Write, to a file of either kind: what is in the file after it, and that it keeps everything else.
use mathlib.Core.Path.{◌≡◌, refl, ap, sym, ◌∙◌}
use mathlib.Core.Bool.{true, false, Bool, true≢false}
use mathlib.Core.List.{List}
use mathlib.Core.Logic.{⊎_elim, inl, inr}
use Prim.Native.Nat.{ℕ, ◌/◌}
use native.Mathlib.Omega.{arith}
use lib.ListN.{length}
use Rattle.volume.specs.Directory.{contiguous, entry_at}
use Rattle.volume.proofs.EntryCounted.{alike_entry}
use Rattle.files.specs.Files.{records}
use Rattle.files.specs.Changes.{overwritten, appended}
use Rattle.work.specs.Transfers.{stored_as, written, units, moving, writing}
use Rattle.work.proofs.TextRules.{stored_units, stored_Bytes}
use Rattle.desk.specs.Desk.{State, file_of, aimed}
use Rattle.desk.specs.Calls.{Touch-units, after, write, transferred, done}
use Rattle.promises.specs.Sectors.{Bytes}
use Rattle.promises.specs.Contents.{slot_held, Wrote, AcceptedWrite}
use Rattle.promises.proofs.Told.{WriteTold, write_told}
use Rattle.promises.proofs.PlacesExist.{units_run, units-one}
use Rattle.promises.proofs.Held.{entry_of}
use Rattle.promises.proofs.Preserving.{Preserves, moved_on, transferred_to, Preserves-sent, Preserves-rewrite}
use Rattle.promises.proofs.Appending.{Appending, appending, append_entry, append_same, append_count, append-records, append_Rewrites}
use Rattle.promises.proofs.Overwriting.{Overwriting, overwriting, overwrite_entry, overwrite_here, overwrite_Rewrites}
use Rattle.promises.proofs.Passing.{accepted, carried}
use Rattle.promises.proofs.OneLun.{only_moved}

pub written_run : (k i : ℕ) (ss v : List ℕ) → contiguous (entry_at v k) ≡ true → written k i ss v ≡ overwritten (entry_at v k) i ss v
unfolding written
written_run k i ss v q = rw q

pub written_records : (k i : ℕ) (ss v : List ℕ) → contiguous (entry_at v k) ≡ false → written k i ss v ≡ appended k ss v
unfolding written
written_records k i ss v q = rw q

module _ (caller lun sel num : ℕ) (fmt : Bool) (bs : List ℕ) (s : State) (T : WriteTold s caller lun sel num (stored_as fmt (file_of s lun) bs)) where
  abbrev v : List ℕ
  v = s.image

  abbrev k : ℕ
  k = slot_held s lun

  abbrev e : List ℕ
  e = entry_of s lun

  abbrev i : ℕ
  i = aimed s lun sel num

  abbrev ss : List ℕ
  ss = stored_as fmt e bs

  abbrev t : State
  t = moved_on s lun (written k i ss v) i (units e (length bs))

  O : contiguous e ≡ true → Overwriting s lun i ss
  unfolding file_of
  O q = overwriting caller lun sel num ss s T q

  A : contiguous e ≡ false → Appending s lun i ss
  unfolding file_of
  A q = appending caller lun sel num ss s T q

  pub Preserves-write : Bytes s.image → Preserves bs (Touch-units (slot_held s lun) (aimed s lun sel num) (units (file_of s lun) (length bs))) s
      (transferred_to s lun (writing s.image (slot_held s lun) (aimed s lun sel num) fmt bs))
  unfolding file_of writing moving after
  Preserves-write bi = Preserves-sent bs ss _ s t (stored_Bytes fmt e bs) (rw (sym (stored_units fmt e bs)) (go (contiguous e) refl))
    where
      go : (b : Bool) → contiguous e ≡ b → Preserves ss (Touch-units k i (units e (length ss))) s (moved_on s lun (written k i ss v) i (units e (length ss)))
      go true q =
          rw (units_run e (length ss) q, written_run k i ss v q) (Preserves-rewrite s bi lun ss (overwritten e i ss v) i _ (O q).held_file (overwrite_Rewrites s lun i ss (O q)))
      go false q =
          rw (units-one e (length ss) q, written_records k i ss v q) (Preserves-rewrite s bi lun ss (appended k ss v) i 1 (A q).held_file (append_Rewrites s lun i ss (A q)))

  wrote : Wrote s (carried (write caller lun sel num fmt bs) s) lun (aimed s lun sel num) bs (stored_as fmt (file_of s lun) bs)
  unfolding file_of done transferred writing moving
  wrote = go (contiguous e) refl
    where
      go : (b : Bool) → contiguous e ≡ b → Wrote s (carried (write caller lun sel num fmt bs) s) lun i bs ss
      go true q =
          let w : written k i ss v ≡ overwritten e i ss v = written_run k i ss v q in
          let x : entry_at (written k i ss v) k ≡ e = ap (λ (u : List ℕ). entry_at u k) w ∙ overwrite_entry s lun i ss (O q) in
          let R = overwrite_Rewrites s lun i ss (O q) in
          record {
            answered = refl;
            same_but_count = alike_entry e (entry_at (written k i ss v) k) x;
            one_more = λ p. absurd (true≢false (sym q ∙ p));
            appended_record = λ p. absurd (true≢false (sym q ∙ p));
            sectors_written = λ p j h. rw w (overwrite_here s lun i ss (O q) j h);
            sectors_kept = λ p j h l. rw w (R.elsewhere j h (⊎_elim (λ a. inl (omega arith)) (λ a. inr a) l));
            sectors_moved = λ p.
                only_moved s lun (writing v k i fmt bs) (length ss / 256) (sym (stored_units fmt e bs) ∙ units_run e (length ss) q) (O q).held_file;
          }
      go false q =
          let w : written k i ss v ≡ appended k ss v = written_records k i ss v q in
          record {
            answered = refl;
            same_but_count = rw (w, append_entry s lun i ss (A q)) (append_same s lun i ss (A q));
            one_more = λ p. rw (w, append_entry s lun i ss (A q)) (append_count s lun i ss (A q));
            appended_record = λ p. (
              (A q).at_end,
              ap (λ (u : List ℕ). records u e) w ∙ append-records s lun i ss (A q),
              only_moved s lun (writing v k i fmt bs) 1 (units-one e (length bs) q) (A q).held_file,
            );
            sectors_written = λ p. absurd (true≢false (sym p ∙ q));
            sectors_kept = λ p. absurd (true≢false (sym p ∙ q));
            sectors_moved = λ p. absurd (true≢false (sym p ∙ q));
          }

pub accepted_write : AcceptedWrite
accepted_write s caller lun sel num fmt bs h =
    let a = accepted (write caller lun sel num fmt bs) s h in
    rw a.is (wrote caller lun sel num fmt bs s (write_told caller lun sel num fmt bs s a))
