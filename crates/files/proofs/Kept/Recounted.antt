-- A volume whose entries are the same but for record counts: it is sound as before but for the counts, and every file on it is as it was.
use mathlib.Core.Path.{◌≡◌, refl, ap, sym, ◌∙◌}
use mathlib.Core.Bool.{Bool, true, false}
use mathlib.Core.List.{List, [], ◌++◌}
use Prim.Native.Nat.{ℕ, ◌*◌, ◌<◌}
use native.Mathlib.Omega.{arith}
use lib.ListN.{length}
use Rattle.lists.specs.Lists.{all, range, ◌and◌, ◌or◌}
use Rattle.lists.specs.Parts.{sectors}
use Rattle.lists.proofs.Alike.{all_alike, flat_alike}
use Rattle.lists.proofs.Keeps.{Keeps}
use Rattle.lists.proofs.Lists.{same_refl}
use Rattle.lists.proofs.Tests.{both_true}
use Rattle.volume.specs.Directory.{entries, entry_at, unused, contiguous, valid, names_differ, sound2, SameButCount}
use Rattle.volume.specs.Sat.{sat_of, free_sectors, free}
use Rattle.volume.specs.Volume.{sat_at, dir_at, dirs, sat, system}
use Rattle.volume.proofs.EntryCounted.{names_alike}
use Rattle.volume.proofs.LayoutKept.{keeps_sectors, keeps_sat_at, keeps_dirs}
use Rattle.volume.proofs.Slots.{length-entries}
use Rattle.ownership.specs.Blocks.{placed, sound3}
use Rattle.ownership.specs.Owners.{owned, all_owned, sound5}
use Rattle.ownership.proofs.OwnedRuns.{owned-unused}
use Rattle.files.specs.Files.{records, tail_sound, records_sound, sound4, sound_but_counts}
use Rattle.files.proofs.Kept.EntryAlike.{owned_alike, placed_alike, content_alike, records_alike}
use Rattle.files.proofs.EntryAndSatWritten.{owned_not_dir}
use Rattle.files.proofs.Kept.FileSame.{Same, Same-file}
use Rattle.files.proofs.Kept.FrameKept.{frame_system, frame_1}
use Rattle.files.proofs.OwnersApart.{sat_not_dir, zero_not, last_not}
use Rattle.files.proofs.OwnSectorsWritten.{slot_valid}
use Rattle.files.proofs.Kept.RecordsSame.{records_same}
use Rattle.ownership.proofs.BlockTests.{placed-unused}
use Rattle.files.proofs.SoundFacts.{Facts, sound_but, content_unused}

pub record Recounted (v v' : List ℕ) : Type 0 where
  pub keeps : Keeps (range (dir_at v) (dirs v)) v v'
  pub each : (k : ℕ) → k < 8 * dirs v → SameButCount (entry_at v k) (entry_at v' k)
  pub each_valid : (k : ℕ) → k < 8 * dirs v → unused (entry_at v' k) or valid (entry_at v' k) ≡ true

module _ (v v' : List ℕ) (F : Facts v) (R : Recounted v v') where
  abbrev ws : List ℕ
  ws = range (dir_at v) (dirs v)

  -- the frame
  pub recounted_sectors : sectors v' ≡ sectors v
  recounted_sectors = keeps_sectors ws v v' R.keeps (last_not v F).0

  pub recounted_dirs : dirs v' ≡ dirs v
  recounted_dirs = keeps_dirs ws v v' R.keeps (last_not v F).0

  pub recounted_sat : sat v' ≡ sat v
  unfolding sat
  recounted_sat = rw (keeps_sat_at ws v v' R.keeps (last_not v F).0) (R.keeps.at (sat_at v) (sat_not_dir v F))

  pub recounted_free : free v' ≡ free v
  unfolding free free_sectors
  recounted_free = rw (recounted_sat, recounted_sectors)

  pub recounted_many : length (entries v') ≡ length (entries v)
  recounted_many = length-entries v' ∙ ap (λ (n : ℕ). 8 * n) recounted_dirs ∙ sym (length-entries v)

  -- each file
  file_Same : (k : ℕ) → k < 8 * dirs v → unused (entry_at v k) ≡ false → Same v v' (entry_at v k)
  file_Same k h u = Same-file ws v v' R.keeps recounted_sectors (entry_at v k) u (owned_not_dir v F k h)

  -- a function of volume and entry that is the same of the same file, of entries that are the same but for the count, and of unused ones
  each_Same : {A : Type 0} (f : List ℕ → List ℕ → A) → ((e : List ℕ) → unused e ≡ true → f v' e ≡ f v e) → ((e : List ℕ) → unused e ≡ false → Same v v' e → f v' e ≡ f v e)
      → ((e d : List ℕ) → SameButCount e d → f v' d ≡ f v' e) → (k : ℕ) → k < 8 * dirs v → f v' (entry_at v' k) ≡ f v (entry_at v k)
  each_Same f none here alike k h = alike (entry_at v k) (entry_at v' k) (R.each k h) ∙ go (unused (entry_at v k)) refl
    where
      go : (b : Bool) → unused (entry_at v k) ≡ b → f v' (entry_at v k) ≡ f v (entry_at v k)
      go true u = none (entry_at v k) u
      go false u = here (entry_at v k) u (file_Same k h u)

  owned_each : (k : ℕ) → k < 8 * dirs v → owned v' (entry_at v' k) ≡ owned v (entry_at v k)
  owned_each =
      each_Same owned (λ e u. owned-unused v' e u ∙ sym (owned-unused v e u)) (λ e u s. s.owned_same) (λ e d s. owned_alike e d s v')

  placed_each : (k : ℕ) → k < 8 * dirs v → placed v' (entry_at v' k) ≡ placed v (entry_at v k)
  placed_each =
      each_Same placed (λ e u. placed-unused v' e u ∙ sym (placed-unused v e u)) (λ e u s. s.placed_same) (λ e d s. placed_alike e d s v')

  abbrev content : List ℕ → List ℕ → Bool
  content img e = tail_sound img e and records_sound img e

  content_each : (k : ℕ) → k < 8 * dirs v → content v' (entry_at v' k) ≡ content v (entry_at v k)
  content_each =
      each_Same content (λ e u. content_unused v' e u ∙ sym (content_unused v e u)) (λ e u s. s.content_same) (λ e d s. content_alike e d s v')

  module _ (k : ℕ) (h : k < 8 * dirs v) (u : unused (entry_at v k) ≡ false) where
    pub recounted_records : contiguous (entry_at v k) ≡ false → records v' (entry_at v' k) ≡ records v (entry_at v k)
    recounted_records c =
        records_alike (entry_at v k) (entry_at v' k) (R.each k h) v' ∙ records_same v v' (entry_at v k) (file_Same k h u) u c

    pub recounted_file : Same v v' (entry_at v k)
    recounted_file = file_Same k h u

  -- the points of soundness
  at : (i : ℕ) → i < length (entries v) → i < 8 * dirs v
  at i h = omega (arith, length-entries v)

  all-valid : all (λ e. unused e or valid e) (entries v') ≡ true
  unfolding entry_at
  all-valid =
      all_alike [] (λ e. unused e or valid e) (λ e. unused e or valid e) (entries v) (entries v') recounted_many
      (λ i h. R.each_valid i (at i h) ∙ sym (slot_valid v F i (at i h))) ∙ F.each_valid

  names : names_differ (entries v') ≡ true
  unfolding entry_at
  names = names_alike (entries v) (entries v') recounted_many (λ i h. R.each i (at i h)) ∙ F.names

  point_3 : sound3 v' ≡ true
  unfolding sound3 entry_at
  point_3 = all_alike [] (placed v) (placed v') (entries v) (entries v') recounted_many (λ i h. placed_each i (at i h)) ∙ F.three

  point_4 : sound4 v' ≡ true
  unfolding sound4 entry_at
  point_4 = all_alike [] (content v) (content v') (entries v) (entries v') recounted_many (λ i h. content_each i (at i h)) ∙ F.four

  pub recounted_owned : all_owned v' ≡ all_owned v
  unfolding all_owned entry_at
  recounted_owned =
      rw (frame_system ws v v' R.keeps (zero_not v F).0 (last_not v F).0)
      (ap (λ (l : List ℕ). system v ++ l) (flat_alike [] (owned v) (owned v') (entries v) (entries v') recounted_many (λ i h. owned_each i (at i h))))

  point_5 : sound5 v' ≡ true
  unfolding sound5
  point_5 =
      rw (recounted_owned, F.none_twice, recounted_sat, F.sat_right, recounted_sectors) (both_true true _ refl (same_refl (sat_of (sectors v) (all_owned v))))

  pub recounted_but : sound_but_counts v' ≡ true
  unfolding sound2
  recounted_but =
      sound_but v' (frame_1 ws v v' R.keeps (zero_not v F).0 (last_not v F).0 F.one) (both_true _ _ all-valid names) point_3 point_4 point_5
