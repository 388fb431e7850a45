-- The calls as values. Defines RULES, The calls (with all of Format to Update); Orders of refusals. Of each call: its rules in its own
-- order, its change, the buffer that it was lent, the bytes that it was sent, and what it may touch. `step` is what every public function
-- states of itself.
use Rattle.std.specs.Prelude.{if◌then◌else◌, Bool, not, true, List, [], ◌∷◌, ◌++◌, ◌≡◌, ℕ, ◌-◌, leb, ltb, length}
use Rattle.numbers.specs.Numbers.{last_user, most_quota}
use Rattle.lists.specs.Lists.{◌or◌, ◌and◌, all}
use Rattle.lists.specs.Parts.{sectors}
use Rattle.volume.specs.Names.{user_of}
use Rattle.volume.specs.Directory.{entry_at}
use Rattle.volume.specs.Sat.{free}
use Rattle.volume.specs.Formatted.{formatted}
use Rattle.files.specs.Files.{extent, sound}
use Rattle.files.specs.Rights.{has_right}
use Rattle.files.specs.Changes.{deleted, brought_up}
use Rattle.compaction.specs.Compaction.{Closing, compacted}
use Rattle.luns.specs.declared.Mode.{Mode}
use Rattle.luns.specs.Luns.{placeless, agree, is_held, moved_to, free_lun, reads_by_right}
use Rattle.luns.specs.declared.Place.{Place}
use Rattle.luns.specs.declared.Place.TheVariants.{Fresh, At}
use Rattle.luns.specs.Modes.{writes, mode_of, reads}
use Rattle.luns.specs.declared.Lun.{Lun}
use Rattle.work.specs.declared.Refusal.TheVariants.{BadLun, NotSound, BadRequest, WrongCode, NoRight, UnknownType, InUse, OutOfRange}
use Rattle.work.specs.Refusals.{Rule, ◌if◌}
use Rattle.work.specs.Volumes.{slot_of, named_rules, format_rules, bring_up_rules, allocate_rules, new_file}
use Rattle.work.specs.Transfers.{read_rules, write_rules, update_rules, Moving, reading, writing, updating, units}
use Rattle.desk.specs.Desk.{State, ready, lun_at, mine, spare, file_of, aimed, put_lun, empty_desk}
use Rattle.desk.specs.declared.Desk.{Desk}
use Rattle.desk.specs.declared.Report.TheVariants.{Moved, Checked, Compacted}
use Rattle.desk.specs.Answers.{Change, Outcome, judged, outcome}
use Rattle.desk.specs.Answers.{Answer}

-- Any numbers, any bytes, any lengths; rc is a new file's read-protect code, `offered` the one that an assign offers
pub data Call : Type 0 where
  format : (id : List ℕ) (dirs : ℕ) → Call
  check bring_up : Call
  compact : (quota : ℕ) → Call
  allocate : (caller : ℕ) (desc : List ℕ) (kind size long rc : ℕ) → Call
  assign : (caller lun : ℕ) (desc : List ℕ) (mode : ℕ) (end : Bool) (offered : ℕ) → Call
  close rewind : (caller lun : ℕ) → Call
  delete : (caller : ℕ) (desc : List ℕ) → Call
  read : (caller lun sel num : ℕ) (formatted : Bool) (buffer : List ℕ) → Call
  write update : (caller lun sel num : ℕ) (formatted : Bool) (bytes : List ℕ) → Call

-- RULES, The calls: all but format, check, bring-up and compact begin with $6F and $03; `fine` says whether caller and LUN are as the call
-- wants them
unfoldable pub begin_rules : State → Bool → List Rule
begin_rules s fine = NotSound if not (ready s) ∷ BadLun if not fine ∷ []

-- RULES, The calls: transfers go on with $82: a mode that does not read, or write; a selector that has no target
unfoldable pub open_rules : (Mode → Bool) → State → ℕ → ℕ → ℕ → List Rule
open_rules able s caller lun sel =
    begin_rules s (mine s.desk caller lun)
    ++ (BadRequest if (not (able (lun_at s.desk lun).mode) or placeless sel (lun_at s.desk lun).place) ∷ [])

-- RULES, Places and selectors: assign makes the place Fresh, or, if the end is asked for and the mode writes, At the last record or sector
unfoldable pub start_of : List ℕ → List ℕ → Mode → Bool → Place
start_of img e m end = if end and writes m and leb 1 (extent img e) then At (extent img e - 1) 1 else Fresh

-- RULES, Assign: the LUN that an assignment of the file in a slot makes
unfoldable pub seat_of : List ℕ → ℕ → ℕ → Mode → Bool → ℕ → Lun
seat_of img caller slot m end offered =
    record { held = true; user = caller; slot = slot; mode = m; offered = offered; place = start_of img (entry_at img slot) m end }

-- RULES, Status numbers: $07 and $0B of assign
unfoldable pub seat_rules : State → ℕ → ℕ → Lun → List Rule
seat_rules s caller user u =
    WrongCode if not (reads_by_right s.image u)
    ∷ NoRight if (writes u.mode and not (has_right caller user) or not (all (agree u) s.desk.luns))
    ∷ []

unfoldable pub new_lun : List ℕ → ℕ → List ℕ → ℕ → Bool → ℕ → Lun
new_lun img caller desc mode end offered = seat_of img caller (slot_of img desc) (mode_of mode) end offered

-- RULES, Orders of refusals: assign: $6F, $03, $02, $64, $17, $07, $0B
unfoldable pub assign_rules : State → ℕ → ℕ → List ℕ → ℕ → Bool → ℕ → List Rule
assign_rules s caller lun desc mode end offered =
    begin_rules s (spare s.desk caller lun)
    ++ (UnknownType if ltb 7 mode
    ∷ (named_rules s.image desc ++ seat_rules s caller (user_of desc) (new_lun s.image caller desc mode end offered)))

-- RULES, Orders of refusals: delete: $6F, $03, $64, $17, $0B, $0D
unfoldable pub remove_rules : Desk → ℕ → ℕ → ℕ → List Rule
remove_rules d caller user slot = NoRight if not (has_right caller user) ∷ InUse if is_held d.luns slot ∷ []

unfoldable pub delete_rules : State → ℕ → List ℕ → List Rule
delete_rules s caller desc =
    begin_rules s (leb caller last_user)
    ++ (named_rules s.image desc ++ remove_rules s.desk caller (user_of desc) (slot_of s.image desc))

-- RULES, Orders of refusals: compact: $6F, $60; it asks for no caller
unfoldable pub compact_rules : State → ℕ → List Rule
compact_rules s n = NotSound if not (ready s) ∷ OutOfRange if ltb most_quota n ∷ []

-- RULES, Orders of refusals: format: $60
-- RULES, Orders of refusals: check: none
-- RULES, Orders of refusals: bring-up: $6F
-- RULES, Orders of refusals: allocate: $6F, $03, $64, $02, $60, $0B, $66, $67, $63
-- RULES, Orders of refusals: close, rewind: $6F, $03
-- RULES, Orders of refusals: read: $6F, $03, $82, $84 (contiguous), $C2, $84 (sequential)
-- RULES, Orders of refusals: write: $6F, $03, $82, $84, $C2, $62, $63, $65
-- RULES, Orders of refusals: update: $6F, $03, $82 (mode or selector), $82 (contiguous), $84, $C2, $61
unfoldable pub rules : Call → State → List Rule
rules (format id n) s = format_rules s.image id n
rules check s = []
rules bring_up s = bring_up_rules s.image
rules (compact n) s = compact_rules s n
rules (allocate caller desc k n l rc) s = begin_rules s (leb caller last_user) ++ allocate_rules s.image caller desc k n l rc
rules (assign caller lun desc mode end offered) s = assign_rules s caller lun desc mode end offered
rules (close caller lun) s = begin_rules s (mine s.desk caller lun)
rules (rewind caller lun) s = begin_rules s (mine s.desk caller lun)
rules (delete caller desc) s = delete_rules s caller desc
rules (read caller lun sel num fmt buf) s =
    open_rules reads s caller lun sel ++ read_rules s.image (file_of s lun) (aimed s lun sel num) fmt (length buf)
rules (write caller lun sel num fmt bs) s =
    open_rules writes s caller lun sel ++ write_rules s.image (file_of s lun) (aimed s lun sel num) fmt bs
rules (update caller lun sel num fmt bs) s =
    open_rules writes s caller lun sel ++ update_rules s.image (file_of s lun) (aimed s lun sel num) fmt bs

-- a change with no data: image and desk after it
unfoldable pub quietly : List ℕ → Desk → Change
quietly img d = record { report = Moved 0; image = img; desk = d; buffer = [] }

-- RULES, Places and selectors: an accepted transfer leaves its LUN At its target
unfoldable pub after : Desk → ℕ → Moving → Desk
after d lun m = put_lun d lun (moved_to (At m.from m.count) (lun_at d lun))

unfoldable pub transferred : State → ℕ → Moving → Change
transferred s lun m = record { report = Moved m.bytes; image = m.image; desk = after s.desk lun m; buffer = m.buffer }

-- RULES, Check: whether the volume is sound, and how many sectors are free; 0 if it is not sound
unfoldable pub checked : State → Change
checked s = record {
  report = Checked (sound s.image) (if sound s.image then free s.image else 0);
  image = s.image;
  desk = s.desk;
  buffer = [];
}

-- RULES, Compact: how many sectors were moved, and why it ended; the desk stays
unfoldable pub closed_up_to : State → Closing → Change
closed_up_to s c = record { report = Compacted c.moved c.ending; image = c.image; desk = s.desk; buffer = [] }

-- RULES, The calls: what each call does, under Format to Update
-- RULES, Close and rewind: close frees the LUN; rewind makes its place Fresh
unfoldable pub done : Call → State → Change
done (format id n) s = quietly (formatted id n (sectors s.image)) empty_desk
done check s = checked s
done bring_up s = quietly (brought_up s.image) s.desk
done (compact n) s = closed_up_to s (compacted n s.image)
done (allocate caller desc k n l rc) s = quietly (new_file s.image desc k n l rc) s.desk
done (assign caller lun desc mode end offered) s =
    quietly s.image (put_lun s.desk lun (new_lun s.image caller desc mode end offered))
done (close caller lun) s = quietly s.image (put_lun s.desk lun free_lun)
done (rewind caller lun) s = quietly s.image (put_lun s.desk lun (moved_to Fresh (lun_at s.desk lun)))
done (delete caller desc) s = quietly (deleted (slot_of s.image desc) s.image) s.desk
done (read caller lun sel num fmt buf) s = transferred s lun (reading s.image (file_of s lun) (aimed s lun sel num) fmt buf)
done (write caller lun sel num fmt bs) s = transferred s lun (writing s.image (lun_at s.desk lun).slot (aimed s lun sel num) fmt bs)
done (update caller lun sel num fmt bs) s = transferred s lun (updating s.image (file_of s lun) (aimed s lun sel num) fmt bs)

-- the buffer that a call is lent, and the bytes that its caller sends
unfoldable pub given : Call → List ℕ
given (format id n) = []
given check = []
given bring_up = []
given (compact n) = []
given (allocate caller desc k n l rc) = []
given (assign caller lun desc mode end offered) = []
given (close caller lun) = []
given (rewind caller lun) = []
given (delete caller desc) = []
given (read caller lun sel num fmt buf) = buf
given (write caller lun sel num fmt bs) = bs
given (update caller lun sel num fmt bs) = bs

unfoldable pub sent : Call → List ℕ
sent (format id n) = id
sent check = []
sent bring_up = []
sent (compact n) = []
sent (allocate caller desc k n l rc) = rc ∷ desc
sent (assign caller lun desc mode end offered) = offered ∷ desc
sent (close caller lun) = []
sent (rewind caller lun) = []
sent (delete caller desc) = desc
sent (read caller lun sel num fmt buf) = []
sent (write caller lun sel num fmt bs) = bs
sent (update caller lun sel num fmt bs) = bs

-- RULES, The calls: what a call may touch of the files that are there: nothing; one file; of one file n records or sectors from i on;
-- record counts in entries, and nothing else; where files lie, and nothing that is read from them; everything
pub data Touch : Type 0 where
  nothing : Touch
  one_file : (slot : ℕ) → Touch
  Touch-units : (slot i n : ℕ) → Touch
  record_counts : Touch
  where_files_lie : Touch
  everything : Touch

unfoldable pub touch : Call → State → Touch
touch (format id n) s = everything
touch check s = nothing
touch bring_up s = record_counts
touch (compact n) s = where_files_lie
touch (allocate caller desc k n l rc) s = nothing
touch (assign caller lun desc mode end offered) s = nothing
touch (close caller lun) s = nothing
touch (rewind caller lun) s = nothing
touch (delete caller desc) s = one_file (slot_of s.image desc)
touch (read caller lun sel num fmt buf) s = nothing
touch (write caller lun sel num fmt bs) s =
    Touch-units (lun_at s.desk lun).slot (aimed s lun sel num) (units (file_of s lun) (length bs))
touch (update caller lun sel num fmt bs) s = Touch-units (lun_at s.desk lun).slot (aimed s lun sel num) 1

-- One call: the first rule that applies, or its change
unfoldable pub step : Call → State → Outcome
step c s = judged (rules c s) s (given c) (done c s)

-- What a public function ensures of its answer, and of image, desk and buffer after it: they are those of the call's one outcome
abbrev pub Ensured : Call → State → Answer → List ℕ → Desk → List ℕ → Type 0
Ensured c s a img d buf = outcome a img d buf ≡ step c s

unfoldable pub calls_open : Unit {0}
unfolding begin_rules open_rules start_of seat_of seat_rules new_lun assign_rules remove_rules delete_rules compact_rules rules quietly after
    transferred checked closed_up_to done given sent touch step
calls_open = tt
