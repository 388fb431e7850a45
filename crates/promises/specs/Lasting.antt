-- The contents of demand 2 over calls "where each call is given the image that the last one left": what was written under a number is
-- read under it. Any desk may come with each call.
use Rattle.std.specs.Prelude.{Bool, true, not, false, List, [], ◌∷◌, ◌≢◌, ◌≡◌, ℕ, ◌<◌, ◌+◌, ◌*◌, ◌/◌, length}
use Rattle.lists.specs.Lists.{◌and◌}
use Rattle.lists.specs.Parts.{over, part}
use Rattle.text.specs.Packing.{packed}
use Rattle.volume.specs.Directory.{entry_at, contiguous, SameButCount}
use Rattle.files.specs.Files.{extent}
use Rattle.work.specs.Transfers.{as_text, stored_as, handed_as}
use Rattle.desk.specs.Desk.{State, file_of, aimed}
use Rattle.desk.specs.Answers.{accepts, moved}
use Rattle.desk.specs.Calls.{step, touch, write, update, read}
use Rattle.desk.specs.declared.Report.TheVariants.{Moved}
use Rattle.work.specs.declared.Refusal.TheVariants.{PastEnd}
use Rattle.std.specs.Prelude.{Ok, Err}
use Rattle.promises.specs.Runs.{Visit, found, through}
use Rattle.promises.specs.Touches.{ends}
use Rattle.promises.specs.Sectors.{Sound, Bytes, VisitBytes, Accepts, File}
use Rattle.promises.specs.Contents.{unit_at, slot_held}

-- no accepted call among the visits ends what unit i of slot k held: no "update, a later write to that contiguous sector, a delete or
-- a format"
unfoldable pub lasts : List Visit → List ℕ → ℕ → ℕ → Bool
lasts [] img k i = true
lasts (v ∷ vs) img k i =
    not (accepts (step v.call (found v img)).answer and ends (touch v.call (found v img)) k i)
    and lasts vs (step v.call (found v img)).image k i

-- a write to a sequential file is none of these: it ends no record that is there, of its own file or another
abbrev pub AppendEndsNone : Type 0
AppendEndsNone =
    (s : State) (caller lun sel num : ℕ) (fmt : Bool) (bs : List ℕ) → Accepts (write caller lun sel num fmt bs) s
    → contiguous (file_of s lun) ≡ false → (k i : ℕ) → i < extent s.image (entry_at s.image k)
    → ends (touch (write caller lun sel num fmt bs) s) k i ≡ false

-- Any record or sector of a sound volume, whatever calls, refused ones among them, come after. (The file's entry is the same but for its
-- record count, which appends raise)
pub record Lasting (img img' : List ℕ) (k i : ℕ) : Type 0 where
  pub same_but_count : SameButCount (entry_at img k) (entry_at img' k)
  pub still_there : i < extent img' (entry_at img k)
  pub same_unit : unit_at img' k i ≡ unit_at img k i

abbrev pub Lasts : Type 0
Lasts =
    (img : List ℕ) → Sound img → (k i : ℕ) → File img k → i < extent img (entry_at img k)
    → (vs : List Visit) → VisitBytes vs → lasts vs img k i ≡ true → Lasting img (through vs img) k i

-- From an image to another, by calls of which none ends unit i of slot k
pub record Between (img : List ℕ) (k i : ℕ) (vs : List Visit) (img' : List ℕ) : Type 0 where
  pub are_bytes : VisitBytes vs
  pub nothing_ends_it : lasts vs img k i ≡ true
  pub reached : img' ≡ through vs img

-- an accepted read of unit i of slot k, by whichever LUN and caller, formatted or not as fmt says, hands over bs
abbrev pub ReadsAs : State → ℕ → ℕ → Bool → List ℕ → Type 0
ReadsAs t k i fmt bs =
    (caller lun sel num : ℕ) (buf : List ℕ) → Accepts (read caller lun sel num fmt buf) t → slot_held t lun ≡ k → aimed t lun sel num ≡ i
    → ((step (read caller lun sel num fmt buf) t).buffer ≡ over bs buf)
    × ((step (read caller lun sel num fmt buf) t).answer ≡ Ok (Moved (length bs)))

-- what is stored in unit i of slot k, whose entry is e, is handed over as it is asked for
abbrev pub HandsBack : State → List ℕ → ℕ → ℕ → List ℕ → Type 0
HandsBack t e k i ss = (fmt : Bool) → ReadsAs t k i fmt (handed_as fmt e ss)

-- "What was written under a record number is read under it": what an accepted write stored there, whatever calls come between and
-- whichever desk comes with the read
abbrev pub WrittenIsRead : Type 0
WrittenIsRead =
    (s : State) → Bytes s.image → (caller lun sel num : ℕ) (fmt : Bool) (bs : List ℕ) → Bytes bs
    → Accepts (write caller lun sel num fmt bs) s → contiguous (file_of s lun) ≡ false → (vs : List Visit) (t : State)
    → Between (step (write caller lun sel num fmt bs) s).image (slot_held s lun) (aimed s lun sel num) vs t.image
    → HandsBack t (file_of s lun) (slot_held s lun) (aimed s lun sel num) (stored_as fmt (file_of s lun) bs)

-- the same of what an accepted update put in a record's place
abbrev pub UpdatedIsRead : Type 0
UpdatedIsRead =
    (s : State) → Bytes s.image → (caller lun sel num : ℕ) (fmt : Bool) (bs : List ℕ) → Bytes bs
    → Accepts (update caller lun sel num fmt bs) s → (vs : List Visit) (t : State)
    → Between (step (update caller lun sel num fmt bs) s).image (slot_held s lun) (aimed s lun sel num) vs t.image
    → HandsBack t (file_of s lun) (slot_held s lun) (aimed s lun sel num) (stored_as fmt (file_of s lun) bs)

-- A text that a formatted write or update stored in a variable file: a formatted read hands it over as itself, a plain read in its packed
-- form, each with the length of what it hands over
abbrev pub HandsBackText : State → ℕ → ℕ → List ℕ → Type 0
HandsBackText t k i bs = ReadsAs t k i true bs × ReadsAs t k i false (packed bs)

abbrev pub WrittenTextIsRead : Type 0
WrittenTextIsRead =
    (s : State) → Bytes s.image → (caller lun sel num : ℕ) (bs : List ℕ)
    → Accepts (write caller lun sel num true bs) s → as_text true (file_of s lun) ≡ true → (vs : List Visit) (t : State)
    → Between (step (write caller lun sel num true bs) s).image (slot_held s lun) (aimed s lun sel num) vs t.image
    → HandsBackText t (slot_held s lun) (aimed s lun sel num) bs

abbrev pub UpdatedTextIsRead : Type 0
UpdatedTextIsRead =
    (s : State) → Bytes s.image → (caller lun sel num : ℕ) (bs : List ℕ)
    → Accepts (update caller lun sel num true bs) s → as_text true (file_of s lun) ≡ true → (vs : List Visit) (t : State)
    → Between (step (update caller lun sel num true bs) s).image (slot_held s lun) (aimed s lun sel num) vs t.image
    → HandsBackText t (slot_held s lun) (aimed s lun sel num) bs

-- and of sector j of a contiguous write, as long as nothing ends that sector: any accepted read, of whatever run of sectors, that covers
-- it as its sector a has it there in its buffer
abbrev pub WrittenSectorIsRead : Type 0
WrittenSectorIsRead =
    (s : State) → Bytes s.image → (caller lun sel num : ℕ) (fmt : Bool) (bs : List ℕ) → Bytes bs
    → Accepts (write caller lun sel num fmt bs) s
    → contiguous (file_of s lun) ≡ true → (j : ℕ) → j < length bs / 256 → (vs : List Visit) (t : State)
    → Between (step (write caller lun sel num fmt bs) s).image (slot_held s lun) (aimed s lun sel num + j) vs t.image
    → (caller' lun' sel' num' : ℕ) (fmt' : Bool) (buf : List ℕ) → Accepts (read caller' lun' sel' num' fmt' buf) t
    → slot_held t lun' ≡ slot_held s lun → (a : ℕ) → aimed t lun' sel' num' + a ≡ aimed s lun sel num + j
    → 256 * a < moved (step (read caller' lun' sel' num' fmt' buf) t).answer
    → part (256 * a) 256 (step (read caller' lun' sel' num' fmt' buf) t).buffer ≡ part (256 * j) 256 bs

-- Nor is a read of what lasts ever refused for want of it: $C2 is not its answer
abbrev pub NeverPastEnd : Type 0
NeverPastEnd =
    (img : List ℕ) → Sound img → (k i : ℕ) → File img k → i < extent img (entry_at img k)
    → (vs : List Visit) (t : State) → Between img k i vs t.image
    → (caller lun sel num : ℕ) (fmt : Bool) (buf : List ℕ) → slot_held t lun ≡ k → aimed t lun sel num ≡ i
    → (step (read caller lun sel num fmt buf) t).answer ≢ Err PastEnd
