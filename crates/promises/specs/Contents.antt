-- The contents of demand 2: what accepted transfers read and write, and what every other call leaves.
use Rattle.std.specs.Prelude.{if◌then◌else◌, List, [], ◌∷◌, ◌++◌, ◌≡◌, Bool, true, false, ◌≢◌, ◌⊎◌, ℕ, ◌+◌, ◌-◌, ◌*◌, ◌/◌, ◌≤◌, ◌<◌, leb, length, set}
use Rattle.lists.specs.Lists.{all}
use Rattle.lists.specs.Parts.{part, over, sector}
use Rattle.volume.specs.Volume.{trailer}
use Rattle.volume.specs.Directory.{contiguous, entry_at, record_count, SameButCount}
use Rattle.records.specs.Records.{allowed, stream_of}
use Rattle.ownership.specs.Blocks.{block}
use Rattle.ownership.specs.Owners.{logical}
use Rattle.files.specs.Files.{record_at, records, extent, stored}
use Rattle.files.specs.Changes.{sectors_at}
use Rattle.work.specs.Transfers.{stored_as, handed_as}
use Rattle.luns.specs.declared.Lun.{Lun}
use Rattle.luns.specs.declared.Place.TheVariants.{At}
use Rattle.luns.specs.Luns.{moved_to}
use Rattle.desk.specs.Desk.{State, lun_at, file_of, aimed}
use Rattle.desk.specs.Answers.{Outcome}
use Rattle.desk.specs.Calls.{write, step, update, read, Call, touch}
use Rattle.desk.specs.declared.Desk.{Desk}
use Rattle.desk.specs.declared.Report.TheVariants.{Moved}
use Rattle.std.specs.Prelude.{Ok}
use Rattle.promises.specs.Answers.{NoFormat}
use Rattle.promises.specs.Sectors.{Accepts, Bytes, File}
use Rattle.promises.specs.Touches.{changes, rewrites}

-- unit i of the file with entry e: the data of record i, or the bytes of sector i; the same of the file in slot k
unfoldable pub unit_of : List ℕ → List ℕ → ℕ → List ℕ
unit_of img e i = if contiguous e then sectors_at e i 1 img else record_at img e i

abbrev pub unit_at : List ℕ → ℕ → ℕ → List ℕ
unit_at img k i = unit_of img (entry_at img k) i

-- the slot that a LUN holds
abbrev pub slot_held : State → ℕ → ℕ
slot_held s lun = (lun_at s.desk lun).slot

-- a desk in which one LUN is now u, and every other as it was
pub record OnlyLun (d d' : Desk) (lun : ℕ) (u : Lun) : Type 0 where
  pub this_lun : lun_at d' lun ≡ u
  pub other_luns : (j : ℕ) → j ≢ lun → lun_at d' j ≡ lun_at d j

-- RULES, Places and selectors: an accepted transfer leaves its LUN, and no other, At its target i with n units moved
abbrev pub Moves : State → Outcome → ℕ → ℕ → ℕ → Type 0
Moves s o lun i n = OnlyLun s.desk o.desk lun (moved_to (At i n) (lun_at s.desk lun))

-- RULES, Write: the file's records are the old ones and the new one, and its entry is the same but for the record count, which is one more;
-- or exactly those sectors have the data, and the entry is the same. Of bs, the bytes sent, ss is stored (`stored_as`)
pub record Wrote (s : State) (o : Outcome) (lun i : ℕ) (bs ss : List ℕ) : Type 0 where
  pub answered : o.answer ≡ Ok (Moved (length bs))
  pub same_but_count : SameButCount (file_of s lun) (entry_at o.image (slot_held s lun))
  pub one_more : contiguous (file_of s lun) ≡ false → record_count (entry_at o.image (slot_held s lun)) ≡ record_count (file_of s lun) + 1
  pub appended_record : contiguous (file_of s lun) ≡ false
      → (i ≡ length (records s.image (file_of s lun)))
      × (records o.image (file_of s lun) ≡ records s.image (file_of s lun) ++ (ss ∷ []))
      × Moves s o lun i 1
  pub sectors_written : contiguous (file_of s lun) ≡ true → (j : ℕ) → j < length ss / 256
      → unit_of o.image (file_of s lun) (i + j) ≡ part (256 * j) 256 ss
  pub sectors_kept : contiguous (file_of s lun) ≡ true → (j : ℕ) → j < extent s.image (file_of s lun)
      → (j < i) ⊎ (i + length ss / 256 ≤ j) → unit_of o.image (file_of s lun) j ≡ unit_of s.image (file_of s lun) j
  pub sectors_moved : contiguous (file_of s lun) ≡ true → Moves s o lun i (length ss / 256)

abbrev pub AcceptedWrite : Type 0
AcceptedWrite =
    (s : State) (caller lun sel num : ℕ) (fmt : Bool) (bs : List ℕ) → Accepts (write caller lun sel num fmt bs) s
    → Wrote s (step (write caller lun sel num fmt bs) s) lun (aimed s lun sel num) bs (stored_as fmt (file_of s lun) bs)

-- RULES, Update: the record, which is stored in the same length, and no other
pub record Updated (s : State) (o : Outcome) (lun i : ℕ) (bs ss : List ℕ) : Type 0 where
  pub answered : o.answer ≡ Ok (Moved (length bs))
  pub entry_same : entry_at o.image (slot_held s lun) ≡ file_of s lun
  pub sequential : contiguous (file_of s lun) ≡ false
  pub there : i < length (records s.image (file_of s lun))
  pub same_length : length ss ≡ length (unit_of s.image (file_of s lun) i)
  pub replaced : records o.image (file_of s lun) ≡ set (records s.image (file_of s lun)) i ss
  pub record_moved : Moves s o lun i 1

abbrev pub AcceptedUpdate : Type 0
AcceptedUpdate =
    (s : State) → Bytes s.image → (caller lun sel num : ℕ) (fmt : Bool) (bs : List ℕ) → Accepts (update caller lun sel num fmt bs) s
    → Updated s (step (update caller lun sel num fmt bs) s) lun (aimed s lun sel num) bs (stored_as fmt (file_of s lun) bs)

-- RULES, Read: as many sectors as the buffer has room for, or fewer if the end comes first; or the record's data, or their text
-- (`handed_as`). The rest of the buffer stays
abbrev pub least : ℕ → ℕ → ℕ
least m n = if leb m n then m else n

pub record HandedOver (s : State) (o : Outcome) (lun i : ℕ) (fmt : Bool) (buf bs : List ℕ) : Type 0 where
  pub answered : o.answer ≡ Ok (Moved (length bs))
  pub image_kept : o.image ≡ s.image
  pub room : length bs ≤ length buf
  pub buffer_has : o.buffer ≡ over bs buf
  pub one_record : contiguous (file_of s lun) ≡ false
      → (bs ≡ handed_as fmt (file_of s lun) (unit_of s.image (file_of s lun) i)) × Moves s o lun i 1
  pub how_many : contiguous (file_of s lun) ≡ true → length bs ≡ 256 * least (length buf / 256) (extent s.image (file_of s lun) - i)
  pub each_sector : contiguous (file_of s lun) ≡ true → (j : ℕ) → 256 * j < length bs
      → part (256 * j) 256 bs ≡ unit_of s.image (file_of s lun) (i + j)
  pub sectors_moved : contiguous (file_of s lun) ≡ true → Moves s o lun i (length bs / 256)

abbrev pub AcceptedRead : Type 0
AcceptedRead =
    (s : State) (caller lun sel num : ℕ) (fmt : Bool) (buf : List ℕ) → Accepts (read caller lun sel num fmt buf) s
    → (bs : List ℕ) × HandedOver s (step (read caller lun sel num fmt buf) s) lun (aimed s lun sel num) fmt buf bs

-- the file of entry e, which has entry e' now, holds what it held: bytes and, if it is sequential, records
pub record SameContents (img img' e e' : List ℕ) : Type 0 where
  pub bytes_same : stored img' e' ≡ stored img e
  pub records_same : contiguous e ≡ false → records img' e' ≡ records img e

-- .. and lies where it lay: access block and sectors
pub record SamePlaces (img img' e e' : List ℕ) : Type 0 where
  pub block_same : contiguous e ≡ false → block img' e' ≡ block img e
  pub sectors_same : logical img' e' ≡ logical img e

-- slot k holds the same file in the same place, with the same entry
pub record SameFile (img img' : List ℕ) (k : ℕ) : Type 0 where
  pub entry_same : entry_at img' k ≡ entry_at img k
  pub contents_same : SameContents img img' (entry_at img k) (entry_at img k)
  pub places_same : SamePlaces img img' (entry_at img k) (entry_at img k)

-- RULES, The calls: a call leaves every file that it does not touch as it was
abbrev pub OtherFilesKept : Type 0
OtherFilesKept =
    (s : State) → Bytes s.image → (c : Call) (k : ℕ) → File s.image k → changes (touch c s) k ≡ false
    → SameFile s.image (step c s).image k

-- RULES, The calls: a call leaves the bytes of every file that it does not rewrite as they were, wherever it lies then
pub record ContentsStay (img img' : List ℕ) (k : ℕ) : Type 0 where
  pub same_but_count : SameButCount (entry_at img k) (entry_at img' k)
  pub contents_same : SameContents img img' (entry_at img k) (entry_at img' k)

abbrev pub ContentsKept : Type 0
ContentsKept =
    (s : State) → Bytes s.image → (c : Call) (k : ℕ) → File s.image k → rewrites (touch c s) k ≡ false
    → ContentsStay s.image (step c s).image k

-- "A write or update leaves every other file's bytes as they were."
abbrev pub OthersKept : Type 0
OthersKept =
    (s : State) → Bytes s.image → (caller lun sel num : ℕ) (fmt : Bool) (bs : List ℕ) (k : ℕ) → File s.image k
    → k ≢ slot_held s lun
    → (SameFile s.image (step (write caller lun sel num fmt bs) s).image k)
    × (SameFile s.image (step (update caller lun sel num fmt bs) s).image k)

-- No call but format changes the image's length, or a byte of sector 0 or of the trailer. (Entries and access blocks of files that a
-- call does not name: `OtherFilesKept`)
pub record SameFrame (img img' : List ℕ) : Type 0 where
  pub as_long : length img' ≡ length img
  pub vid_same : sector 0 img' ≡ sector 0 img
  pub trailer_same : trailer img' ≡ trailer img

abbrev pub FrameKept : Type 0
FrameKept = (s : State) → Bytes s.image → (c : Call) → NoFormat c → SameFrame s.image (step c s).image

-- "Two record lists allowed for one record length never make the same stream."
abbrev pub OneStreamEach : Type 0
OneStreamEach =
    (l : ℕ) (rs qs : List (List ℕ)) → all (allowed l) rs ≡ true → all (allowed l) qs ≡ true → stream_of l rs ≡ stream_of l qs → rs ≡ qs
