-- Record counts: that they are right, over any calls; and bring-up of volumes from before there were counts.
use Rattle.std.specs.Prelude.{true, false, List, ◌↔◌, ◌⊎◌, ◌≡◌, ℕ, ◌+◌, ◌*◌, ◌≤◌, ◌<◌, length}
use Rattle.lists.specs.Parts.{byte}
use Rattle.volume.specs.Directory.{entry_at, contiguous, record_count, SameButCount}
use Rattle.volume.specs.Sat.{free}
use Rattle.volume.specs.Volume.{dir_at}
use Rattle.files.specs.Files.{records, extent, sound, sound_before}
use Rattle.luns.specs.Luns.{fits}
use Rattle.work.specs.declared.Refusal.TheVariants.{NotSound}
use Rattle.desk.specs.Desk.{State}
use Rattle.desk.specs.Answers.{Outcome}
use Rattle.desk.specs.Calls.{format, bring_up, step}
use Rattle.std.specs.Prelude.{Ok, Err}
use Rattle.desk.specs.declared.Report.TheVariants.{Moved}
use Rattle.promises.specs.Contents.{SameContents, SamePlaces}
use Rattle.promises.specs.Runs.{Visit, through}
use Rattle.promises.specs.Sectors.{Accepts, File, VisitBytes}

-- "A volume is sound only if each stored count equals the count of the stream": so far goes a sequential file
pub record CountRight (img : List ℕ) (k : ℕ) : Type 0 where
  pub of_records : record_count (entry_at img k) ≡ length (records img (entry_at img k))
  pub is_extent : extent img (entry_at img k) ≡ record_count (entry_at img k)

abbrev pub StoredCounts : Type 0
StoredCounts = (img : List ℕ) → sound img ≡ true → (k : ℕ) → File img k → contiguous (entry_at img k) ≡ false → CountRight img k

-- "Every operation keeps it true": from a formatted volume on, whatever calls come with whatever desks
abbrev pub StoredCountsStay : Type 0
StoredCountsStay =
    (s : State) (id : List ℕ) (n : ℕ) → Accepts (format id n) s → (vs : List Visit) → VisitBytes vs
    → (k : ℕ) → File (through vs (step (format id n) s).image) k
    → contiguous (entry_at (through vs (step (format id n) s).image) k) ≡ false → CountRight (through vs (step (format id n) s).image) k

-- "accepts exactly the volumes sound by the old rule .. all others $6F". (`RefusalKeeps` has what a refusal leaves)
pub record Exactly (s : State) : Type 0 where
  pub old_accepted : Accepts bring_up s ↔ (sound_before s.image ≡ true)
  pub others_refused : ((step bring_up s).answer ≡ Err NotSound) ↔ (sound_before s.image ≡ false)

abbrev pub BringUpExactly : Type 0
BringUpExactly = (s : State) → Exactly s

-- byte j is none of the bytes 28-31 of a sequential file's entry
abbrev pub NoCountByte : List ℕ → ℕ → Type 0
NoCountByte img j =
    (k : ℕ) → File img k → contiguous (entry_at img k) ≡ false
    → (j < 256 * dir_at img + 32 * k + 28) ⊎ (256 * dir_at img + 32 * k + 32 ≤ j)

-- "bring_up's result is sound, holds the same records and files, and differs in those bytes alone"; "leaves the desk as it is", and a desk
-- that fitted goes on fitting
pub record BroughtUp (s : State) (o : Outcome) : Type 0 where
  pub answered : o.answer ≡ Ok (Moved 0)
  pub is_sound : sound o.image ≡ true
  pub as_long : length o.image ≡ length s.image
  pub only_counts : (j : ℕ) → NoCountByte s.image j → byte o.image j ≡ byte s.image j
  pub entries_same : (k : ℕ) → SameButCount (entry_at s.image k) (entry_at o.image k)
  pub files_same : (k : ℕ) → File s.image k
      → (SameContents s.image o.image (entry_at s.image k) (entry_at o.image k))
      × (SamePlaces s.image o.image (entry_at s.image k) (entry_at o.image k))
  pub as_many_free : free o.image ≡ free s.image
  pub desk_kept : o.desk ≡ s.desk
  pub still_fits : fits s.image s.desk.luns ≡ true → fits o.image o.desk.luns ≡ true

abbrev pub AcceptedBringUp : Type 0
AcceptedBringUp = (s : State) → Accepts bring_up s → BroughtUp s (step bring_up s)

-- "A volume sound by the new rule that has records is $6F to it; one with no records is sound by both and comes back as it was"
pub record SoundAlready : Type 0 where
  pub with_records : (s : State) → sound s.image ≡ true → (k : ℕ) → File s.image k → contiguous (entry_at s.image k) ≡ false
      → 1 ≤ length (records s.image (entry_at s.image k)) → (step bring_up s).answer ≡ Err NotSound
  pub with_none : (s : State) → sound s.image ≡ true
      → ((k : ℕ) → File s.image k → contiguous (entry_at s.image k) ≡ false → length (records s.image (entry_at s.image k)) ≡ 0)
      → Accepts bring_up s × ((step bring_up s).image ≡ s.image)
