-- Write to a contiguous file: exactly those sectors, and everything else stays.
use mathlib.Core.Path.{◌≡◌, ap, sym, ◌∙◌}
use mathlib.Core.Bool.{true, false}
use mathlib.Core.List.{List}
use Prim.Native.Nat.{ℕ, ◌+◌, ◌/◌, ◌≤◌, ◌*◌, ◌<◌}
use native.Mathlib.Omega.{arith}
use lib.ListN.{length}
use borrow.Author.Tests.{ltb-false}
use Rattle.lists.specs.Parts.{part}
use Rattle.lists.proofs.Tests.{or_right}
use Rattle.volume.specs.Directory.{contiguous, size, entry_at}
use Rattle.volume.proofs.EntryCounted.{alike_refl}
use Rattle.files.specs.Files.{extent}
use Rattle.files.specs.Changes.{overwritten}
use Rattle.keeping.proofs.OverwriteKeeps.{overwritten-Changed, overwritten-sound, overwritten_entry, overwritten_read, overwritten_others, Bytes-overwritten}
use Rattle.work.specs.Transfers.{odd_length, wrong_length, beyond}
use Rattle.desk.specs.Desk.{State, file_of, aimed}
use Rattle.promises.specs.Contents.{unit_of, slot_held}
use Rattle.promises.proofs.Units.{extent_run, unit_sector, sector_of}
use Rattle.promises.proofs.PlacesExist.{Sectored, sectored, place_run}
use Rattle.promises.proofs.Held.{entry_of, Held, Held-by}
use Rattle.promises.proofs.Told.{WriteTold}
use Rattle.promises.proofs.Preserving.{Rewrites}

run_length : (e bs : List ℕ) → contiguous e ≡ true → wrong_length e bs ≡ false → odd_length (length bs) ≡ false
unfolding wrong_length
run_length e bs q h = rw q at h

not_across : (v e : List ℕ) (i n : ℕ) → contiguous e ≡ true → beyond v e i n ≡ false → i + n / 256 ≤ size e
unfolding beyond
not_across v e i n q h =
    let x : extent v e ≡ size e = extent_run v e q in
    let y : i + n / 256 ≤ extent v e = ltb-false _ _ (or_right _ _ (rw q at h)) in
    omega arith

-- what an accepted write says of a contiguous file
pub record Overwriting (s : State) (lun i : ℕ) (ss : List ℕ) : Type 0 where
  pub held_file : Held s lun
  pub runs : contiguous (entry_of s lun) ≡ true
  pub in_sectors : Sectored (length ss)
  pub inside : i + length ss / 256 ≤ size (entry_of s lun)

pub overwriting : (caller lun sel num : ℕ) (ss : List ℕ) (s : State) → WriteTold s caller lun sel num ss → contiguous (entry_of s lun) ≡ true
    → Overwriting s lun (aimed s lun sel num) ss
unfolding file_of
overwriting caller lun sel num ss s T q = record {
  held_file = Held-by s caller lun T.opened.is_ready T.opened.is_mine;
  runs = q;
  in_sectors = sectored (length ss) (run_length (entry_of s lun) ss q T.long_ok);
  inside = not_across s.image (entry_of s lun) (aimed s lun sel num) (length ss) q T.inside;
}

module _ (s : State) (lun i : ℕ) (ss : List ℕ) (O : Overwriting s lun i ss) where
  abbrev v : List ℕ
  v = s.image

  abbrev k : ℕ
  k = slot_held s lun

  abbrev e : List ℕ
  e = entry_of s lun

  abbrev n : ℕ
  n = length ss / 256

  abbrev v' : List ℕ
  v' = overwritten e i ss v

  abbrev H : Held s lun
  H = O.held_file

  pub overwrite_entry : entry_at (overwritten (entry_of s lun) i ss s.image) (slot_held s lun) ≡ entry_of s lun
  overwrite_entry = overwritten_entry v H.facts_of k H.slot_in H.lun_ok.used O.runs i n ss O.inside O.in_sectors.whole

  -- a sector that was written, and one that was not
  pub overwrite_here : (j : ℕ) → j < length ss / 256 → unit_of (overwritten (entry_of s lun) i ss s.image) (entry_of s lun) (i + j) ≡ part (256 * j) 256 ss
  overwrite_here j h =
      unit_sector v' e (i + j) O.runs
      ∙ sym (sector_of e i n j v' h)
      ∙ ap (part (256 * j) 256) (overwritten_read v H.facts_of k H.slot_in H.lun_ok.used O.runs i n ss O.inside O.in_sectors.whole)

  pub overwrite_Rewrites : Rewrites s lun ss (overwritten (entry_of s lun) i ss s.image) i (length ss / 256)
  overwrite_Rewrites = record {
    ws = _;
    entry = e;
    changed = overwritten-Changed v H.facts_of k H.slot_in H.lun_ok.used O.runs i n ss O.inside O.in_sectors.whole;
    same = alike_refl e;
    is_sound = overwritten-sound v H.facts_of k H.slot_in H.lun_ok.used O.runs i n ss O.inside O.in_sectors.whole H.counts_of;
    are_bytes = λ bi b. Bytes-overwritten e i ss v b bi;
    as_long = omega (arith, extent_run v e O.runs, extent_run v' e O.runs);
    place = place_run v' e i n O.runs O.in_sectors.some O.in_sectors.few O.inside;
    elsewhere = λ u l h.
        unit_sector v' e u O.runs
        ∙ overwritten_others v H.facts_of k H.slot_in H.lun_ok.used O.runs i n ss O.inside O.in_sectors.whole u 1 h
        ∙ sym (unit_sector v e u O.runs);
  }
