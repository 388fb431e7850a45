-- The free sectors after each call, in numbers.
use Rattle.std.specs.Prelude.{if◌then◌else◌, Bool, List, ◌≡◌, ℕ, ◌+◌, ◌-◌, ◌%◌, ◌≤◌, eqb, length}
use Rattle.numbers.specs.Numbers.{record_limit, most_new}
use Rattle.lists.specs.Parts.{in_sectors}
use Rattle.volume.specs.Directory.{contiguous, entry_at, record_length, size}
use Rattle.volume.specs.Sat.{free}
use Rattle.ownership.specs.Blocks.{block, stream_length, total}
use Rattle.files.specs.Changes.{taken}
use Rattle.work.specs.Volumes.{slot_of}
use Rattle.work.specs.Transfers.{stored_as}
use Rattle.desk.specs.Desk.{State, file_of}
use Rattle.desk.specs.Calls.{Call, format, check, bring_up, compact, allocate, assign, close, rewind, delete, read, write, update, step}
use Rattle.promises.specs.Sectors.{Bytes, Accepts}
use Rattle.promises.specs.Answers.{NoFormat}

-- the sectors that a file has, its access block too
unfoldable pub sectors_held : List ℕ → List ℕ → ℕ
sectors_held img e = if contiguous e then size e else 1 + total (block img e)

-- the sectors that a sequential file with entry e needs for a record that is stored in n bytes more: its stream grows from E by n bytes, or
-- for variable records by a count word, the bytes and a pad byte if n is odd
unfoldable pub growth : List ℕ → List ℕ → ℕ → ℕ
growth img e n =
    in_sectors (stream_length (block img e) + (if eqb (record_length e) 0 then 2 + n + n % 2 else n)) - total (block img e)

-- the sectors that an accepted call takes, and those that it gives back. (Format: `Formats`)
pub record Trade : Type 0 where
  pub takes : ℕ
  pub gives : ℕ

abbrev pub trading : ℕ → ℕ → Trade
trading t g = record { takes = t; gives = g }

unfoldable pub trade : Call → State → Trade
trade (format id n) s = trading 0 0
trade check s = trading 0 0
trade bring_up s = trading 0 0
trade (compact n) s = trading 0 0
trade (allocate caller desc k n l rc) s = trading (taken k n) 0
trade (assign caller lun desc mode end offered) s = trading 0 0
trade (close caller lun) s = trading 0 0
trade (rewind caller lun) s = trading 0 0
trade (delete caller desc) s = trading 0 (sectors_held s.image (entry_at s.image (slot_of s.image desc)))
trade (read caller lun sel num fmt buf) s = trading 0 0
trade (write caller lun sel num fmt bs) s =
    trading (if contiguous (file_of s lun) then 0 else growth s.image (file_of s lun) (length (stored_as fmt (file_of s lun) bs))) 0
trade (update caller lun sel num fmt bs) s = trading 0 0

abbrev pub FreeCount : Type 0
FreeCount =
    (s : State) → Bytes s.image → (c : Call) → NoFormat c → Accepts c s
    → free (step c s).image + (trade c s).takes ≡ free s.image + (trade c s).gives

-- RULES, Words and numbers: the most new sectors of one append. A write takes no more sectors than a count word and what it stores fill
-- from a sector's start on, so never more than `most_new`; and the longest record, in a variable file that is empty yet, takes as many
pub record MostTaken : Type 0 where
  pub by_length : (s : State) (caller lun sel num : ℕ) (fmt : Bool) (bs : List ℕ) → Accepts (write caller lun sel num fmt bs) s
      → (trade (write caller lun sel num fmt bs) s).takes ≤ in_sectors (2 + length (stored_as fmt (file_of s lun) bs))
  pub never_more : (s : State) (caller lun sel num : ℕ) (fmt : Bool) (bs : List ℕ) → Accepts (write caller lun sel num fmt bs) s
      → (trade (write caller lun sel num fmt bs) s).takes ≤ most_new
  pub is_reached : (img e : List ℕ) → record_length e ≡ 0 → stream_length (block img e) ≡ 0 → total (block img e) ≡ 0
      → growth img e record_limit ≡ most_new
