-- Demand 2, formatting, allocating and deleting: what accepted calls do.
use Rattle.std.specs.Prelude.{List, [], ◌∷◌, ◌≡◌, true, false, not, ◌≢◌, ℕ, ◌+◌, ◌-◌, ◌*◌, ◌<◌, length, take}
use Rattle.lists.specs.Lists.{among, range, ◌or◌, ◌and◌}
use Rattle.lists.specs.Parts.{sectors, sector, blanks}
use Rattle.volume.specs.Names.{descriptor}
use Rattle.volume.specs.Volume.{system, sat}
use Rattle.volume.specs.Directory.{entry_at, unused, kind, described, read_code, record_length, start, size}
use Rattle.volume.specs.Formatted.{formatted}
use Rattle.volume.specs.Sat.{free, is_free, run_at}
use Rattle.ownership.specs.Owners.{owned}
use Rattle.files.specs.Files.{stored, records}
use Rattle.files.specs.Changes.{taken}
use Rattle.work.specs.Volumes.{slot_of, exists}
use Rattle.desk.specs.Desk.{State, empty_desk}
use Rattle.desk.specs.Answers.{Outcome}
use Rattle.desk.specs.Calls.{step, format, allocate, delete}
use Rattle.desk.specs.declared.Report.TheVariants.{Moved}
use Rattle.std.specs.Prelude.{Ok}
use Rattle.promises.specs.Sectors.{Accepts}

-- RULES, Format: the formatted volume of the image's own length, whatever the image held, with no file, all but the system sectors free,
-- and an empty desk
pub record Formats (s : State) (o : Outcome) (id : List ℕ) (n : ℕ) : Type 0 where
  pub answered : o.answer ≡ Ok (Moved 0)
  pub is_formatted : o.image ≡ formatted id n (sectors s.image)
  pub as_long : length o.image ≡ length s.image
  pub has_id : take 4 o.image ≡ id
  pub no_file : (k : ℕ) → unused (entry_at o.image k) ≡ true
  pub its_system : system o.image ≡ 0 ∷ 1 ∷ (sectors s.image - 1) ∷ range 2 n
  pub others_free : (x : ℕ) → x < sectors s.image → is_free (sat o.image) x ≡ not (among x (system o.image))
  pub free_count : free o.image + (3 + n) ≡ sectors s.image
  pub desk_empty : o.desk ≡ empty_desk

abbrev pub AcceptedFormat : Type 0
AcceptedFormat = (s : State) (id : List ℕ) (n : ℕ) → Accepts (format id n) s → Formats s (step (format id n) s) id n

-- RULES, Allocate: the file is found by its descriptor in slot j, which is the lowest unused one; it is as asked for, and zeroed or empty;
-- its sectors are the lowest run that was free, and no other sector's mark changes; the name is new, and every other is found as before
pub record Allocates (s : State) (o : Outcome) (desc : List ℕ) (k n l rc j : ℕ) : Type 0 where
  pub answered : o.answer ≡ Ok (Moved 0)
  pub found : (exists o.image desc ≡ true) × (slot_of o.image desc ≡ j)
  pub was_unused : unused (entry_at s.image j) ≡ true
  pub lower_used : (i : ℕ) → i < j → unused (entry_at s.image i) ≡ false
  pub its_name : described (entry_at o.image j) ≡ desc
  pub its_kind : kind (entry_at o.image j) ≡ k
  pub its_size : size (entry_at o.image j) ≡ n
  pub its_read_code : read_code (entry_at o.image j) ≡ rc
  pub its_record_length : record_length (entry_at o.image j) ≡ l
  pub zero_filled : k ≡ 0 → stored o.image (entry_at o.image j) ≡ blanks (256 * n)
  pub no_records : k ≡ 1 → records o.image (entry_at o.image j) ≡ []
  pub its_sectors : owned o.image (entry_at o.image j) ≡ range (start (entry_at o.image j)) (taken k n)
  pub were_free : run_at (sat s.image) (sectors s.image) (taken k n) (start (entry_at o.image j)) ≡ true
  pub lowest_start : (x : ℕ) → x < start (entry_at o.image j) → run_at (sat s.image) (sectors s.image) (taken k n) x ≡ false
  pub still_free : (x : ℕ) → x < sectors s.image
      → is_free (sat o.image) x ≡ (is_free (sat s.image) x and not (among x (owned o.image (entry_at o.image j))))
  pub was_new : exists s.image desc ≡ false
  pub names_kept : (d : List ℕ) → descriptor d ≡ true → d ≢ desc
      → (exists o.image d ≡ exists s.image d) × (slot_of o.image d ≡ slot_of s.image d)
  pub desk_kept : o.desk ≡ s.desk

abbrev pub AcceptedAllocate : Type 0
AcceptedAllocate =
    (s : State) (caller : ℕ) (desc : List ℕ) (k n l rc : ℕ) → Accepts (allocate caller desc k n l rc) s
    → (j : ℕ) × Allocates s (step (allocate caller desc k n l rc) s) desc k n l rc j

-- RULES, Delete: the name is found no more, and every other as before; all sectors that the file owned are free, and no others; what they
-- hold is left as it is
pub record Deletes (s : State) (o : Outcome) (desc : List ℕ) (j : ℕ) : Type 0 where
  pub answered : o.answer ≡ Ok (Moved 0)
  pub was_found : (exists s.image desc ≡ true) × (slot_of s.image desc ≡ j)
  pub is_lost : exists o.image desc ≡ false
  pub is_unused : entry_at o.image j ≡ blanks 32
  pub names_kept : (d : List ℕ) → descriptor d ≡ true → d ≢ desc
      → (exists o.image d ≡ exists s.image d) × (slot_of o.image d ≡ slot_of s.image d)
  pub freed : (x : ℕ) → x < sectors s.image
      → is_free (sat o.image) x ≡ (is_free (sat s.image) x or among x (owned s.image (entry_at s.image j)))
  pub bytes_stay : (x : ℕ) → among x (owned s.image (entry_at s.image j)) ≡ true → sector x o.image ≡ sector x s.image
  pub desk_kept : o.desk ≡ s.desk

abbrev pub AcceptedDelete : Type 0
AcceptedDelete =
    (s : State) (caller : ℕ) (desc : List ℕ) → Accepts (delete caller desc) s
    → (j : ℕ) × Deletes s (step (delete caller desc) s) desc j
