-- A volume rearranged, whatever was moved on it: a good state stays good, every file holds what it held, and the frame stays.
use mathlib.Core.Path.{◌≡◌, sym, ◌∙◌}
use mathlib.Core.Bool.{true, false, true≢false}
use mathlib.Core.List.{List}
use Prim.Native.Nat.{ℕ, ◌-◌}
use native.Mathlib.Omega.{arith}
use Rattle.lists.specs.Parts.{sector, sectors}
use Rattle.volume.specs.Volume.{trailer}
use Rattle.volume.specs.Directory.{entry_at, contiguous}
use Rattle.volume.proofs.EntryCounted.{alike_entry}
use Rattle.files.specs.Files.{records, sound}
use Rattle.files.proofs.EntryAndSatWritten.{in_zero, in_last}
use Rattle.files.proofs.OwnersApart.{zero_not, last_not}
use Rattle.files.proofs.SoundFacts.{facts}
use Rattle.files.proofs.slot.UsedSlots.{used_slot}
use Rattle.luns.specs.declared.Lun.{Lun}
use Rattle.luns.proofs.Fitting.{Fitting, fitting, fits_is, Fitting-kept}
use Rattle.desk.specs.Desk.{State, state}
use Rattle.desk.specs.Calls.{where_files_lie}
use Rattle.promises.specs.Contents.{SameContents, SameFile, SameFrame}
use Rattle.promises.specs.Sectors.{File}
use Rattle.promises.specs.Touches.{changes}
use Rattle.promises.proofs.Held.{any_Lun}
use Rattle.promises.proofs.Preserving.{Preserves}
use Rattle.moves.proofs.Rearranged.{Rearranged, entry_same, records_rearranged, run_logical}
use Rattle.promises.proofs.Units.{extent_kept, unit_kept, Lasting-by}

module _ (v v' : List ℕ) (R : Rearranged v v') where
  pub records_stay : (k : ℕ) → File v k → contiguous (entry_at v k) ≡ false → records v' (entry_at v k) ≡ records v (entry_at v k)
  records_stay k f = records_rearranged v v' R k f.slot f.used

  pub contents_stay : (k : ℕ) → File v k → SameContents v v' (entry_at v k) (entry_at v k)
  contents_stay k f = record { bytes_same = R.stored_same k f.slot f.used; records_same = records_stay k f }

  -- a contiguous file's sectors are those that its entry says
  pub run_stays : (k : ℕ) → File v k → contiguous (entry_at v k) ≡ true → SameFile v v' k
  run_stays k f c = record {
    entry_same = entry_same v v' R k;
    contents_same = contents_stay k f;
    places_same = record { block_same = λ q. absurd (true≢false (sym c ∙ q)); sectors_same = run_logical v v' (entry_at v k) c };
  }

  pub Fitting-stays : (us : List Lun) → Fitting v us → Fitting v' us
  Fitting-stays us =
      Fitting-kept v v' us (λ u. true) (any_Lun us)
      (λ u h c o.
      let f : File v u.slot = record { slot = used_slot v u.slot o.used; used = o.used } in
      (alike_entry (entry_at v u.slot) (entry_at v' u.slot) (entry_same v v' R u.slot), omega (arith, extent_kept v v' (entry_at v u.slot) (records_stay u.slot f))))

  pub frame_stays : sound v ≡ true → SameFrame v v'
  unfolding trailer sectors
  frame_stays h =
      let last : sector (sectors v - 1) v' ≡ sector (sectors v - 1) v = R.system_same (sectors v - 1) (in_last v) (last_not v (facts v h)).1 in
      record {
        as_long = R.as_long;
        vid_same = R.system_same 0 (in_zero v) (zero_not v (facts v h)).1;
        trailer_same = rw R.as_long last;
      }

-- what every call keeps, of one that rearranges a sound volume
pub Preserves-Rearranged : (bs : List ℕ) (s : State) (v' : List ℕ) → Rearranged s.image v' → sound s.image ≡ true → Preserves bs where_files_lie s (state v' s.desk)
unfolding changes
Preserves-Rearranged bs s v' R h =
    let v : List ℕ = s.image in
    record {
      sound_after = λ x g. record { is_sound = R.sound_after g.is_sound; is_bytes = R.bytes_after g.is_bytes };
      good_after = λ x g. record {
        volume = record { is_sound = R.sound_after g.volume.is_sound; is_bytes = R.bytes_after g.volume.is_bytes };
        is_fitting = fits_is v' s.desk.luns (Fitting-stays v v' R s.desk.luns (fitting v s.desk.luns g.is_fitting));
      };
      others = λ k f q. absurd (true≢false q);
      units = λ k i f l q.
          Lasting-by v v' k i (alike_entry (entry_at v k) (entry_at v' k) (entry_same v v' R k))
          (omega (arith, l, extent_kept v v' (entry_at v k) (records_stay v v' R k f)))
          (unit_kept v v' (entry_at v k) i (R.stored_same k f.slot f.used) (records_stay v v' R k f) l);
      frame = λ n. frame_stays v v' R h;
    }
