-- Private means private: who reads a file that has a read-protect code, over runs; and volumes from before there were codes.
use Rattle.std.specs.Prelude.{Bool, true, false, List, [], ◌∷◌, ◌≢◌, ◌≡◌, ℕ, ◌<◌, eqb, leb, length, take, get_or}
use Rattle.lists.specs.Lists.{◌and◌, ◌or◌, all}
use Rattle.lists.specs.Parts.{byte, word}
use Rattle.volume.specs.Names.{descriptor}
use Rattle.volume.specs.Volume.{sound1}
use Rattle.volume.specs.Directory.{entries, entry_at, unused, kind, owner, described, read_code, extent_good, names_differ}
use Rattle.ownership.specs.Blocks.{sound3}
use Rattle.ownership.specs.Owners.{sound5}
use Rattle.files.specs.Files.{sound4, counts_are, no_count, sound_before}
use Rattle.files.specs.Rights.{has_right, may_read}
use Rattle.work.specs.declared.Refusal.TheVariants.{NotSound}
use Rattle.std.specs.Prelude.{Err}
use Rattle.desk.specs.Desk.{State, state, empty_desk, file_of}
use Rattle.desk.specs.Answers.{Outcome, outcome, accepts, moved}
use Rattle.desk.specs.Calls.{Call, format, check, assign, read, given, step}
use Rattle.front.specs.Blocks.{lun_in}
use Rattle.front.specs.Front.{Lent, serve_format, front}
use Rattle.promises.specs.Fronts.{Request, formats, leaves, image_after, bytes_after, calls_made, RequestBytes, Asks, file_asked}
use Rattle.promises.specs.Runs.{next, run, trace}
use Rattle.promises.specs.Sectors.{Accepts, AllBytes, File}

-- Call k of a run, the state that it finds, and its outcome in the trace. Where there is none: a check, and a refusal
abbrev pub call_at : List Call → ℕ → Call
call_at cs k = get_or cs k check

abbrev pub found_at : List Call → State → ℕ → State
found_at cs s k = run (take k cs) s

abbrev pub outcome_at : List Call → State → ℕ → Outcome
outcome_at cs s k = get_or (trace cs s) k (outcome (Err NotSound) [] empty_desk [])

-- call j is an accepted assign by which the caller offered this code for the file of this descriptor, and got the LUN
pub record Offered (cs : List Call) (s : State) (caller lun : ℕ) (desc : List ℕ) (rc j : ℕ) : Type 0 where
  pub mode : ℕ
  pub end : Bool
  pub is_assign : call_at cs j ≡ assign caller lun desc mode end rc
  pub is_accepted : accepts (outcome_at cs s j).answer ≡ true

-- what lets a caller read the file of entry e by a LUN, as call k: its code is 0; the caller is its owner or user 0; its code was offered
pub data ByRight (cs : List Call) (s : State) (k caller lun : ℕ) (e : List ℕ) : Type 0 where
  unprotected : read_code e ≡ 0 → ByRight cs s k caller lun e
  ByRight-has_right : has_right caller (owner e) ≡ true → ByRight cs s k caller lun e
  was_offered : (j : ℕ) → j < k → Offered cs s caller lun (described e) (read_code e) j → ByRight cs s k caller lun e

-- "every accepted read by a LUN of theirs is of a file whose code is 0 or was offered": over any run from a formatted volume
abbrev pub ReadByRight : Type 0
ReadByRight =
    (s : State) (id : List ℕ) (n : ℕ) → Accepts (format id n) s → (cs : List Call) → AllBytes cs
    → (k caller lun sel num : ℕ) (fmt : Bool) (buf : List ℕ) → call_at cs k ≡ read caller lun sel num fmt buf
    → accepts (outcome_at cs (next (format id n) s) k).answer ≡ true
    → ByRight cs (next (format id n) s) k caller lun (file_of (found_at cs (next (format id n) s) k) lun)

-- the same through the front: a block that reads and is answered $00, after a format and any requests; cs are the calls that these made
abbrev pub ReadByRightThrough : Type 0
ReadByRightThrough =
    (id : List ℕ) (n : ℕ) (img bs : List ℕ) → (serve_format id n img bs).returned ≡ 0x00 → (rs : List Request) → RequestBytes rs
    → (cs : List Call) → cs ≡ calls_made rs (leaves (formats id n) img bs).image (leaves (formats id n) img bs).desk
    → (caller : ℕ) (l : Lent) → l.image ≡ image_after (formats id n ∷ rs) img bs → l.desk ≡ bytes_after (formats id n ∷ rs) img bs
    → Asks 0x01 l → (front caller l).returned ≡ 0x00
    → ByRight cs (next (format id n) (state img empty_desk)) (length cs) caller (lun_in l.block) (file_asked l)

-- "a caller who is neither owner nor user 0 and never offered the right code never gets a byte of a file with a code other than 0"
-- (an offer in vain, by an assign that was refused, counts for nothing)
pub record Stranger (cs : List Call) (s : State) (k caller : ℕ) (e : List ℕ) : Type 0 where
  pub is_protected : read_code e ≢ 0
  pub has_no_right : has_right caller (owner e) ≡ false
  pub never_offered : (lun j : ℕ) → j < k → Offered cs s caller lun (described e) (read_code e) j → ⊥

abbrev pub NeverAByte : Type 0
NeverAByte =
    (s : State) (id : List ℕ) (n : ℕ) → Accepts (format id n) s → (cs : List Call) → AllBytes cs
    → (k caller lun sel num : ℕ) (fmt : Bool) (buf : List ℕ) → call_at cs k ≡ read caller lun sel num fmt buf
    → Stranger cs (next (format id n) s) k caller (file_of (found_at cs (next (format id n) s) k) lun)
    → ((outcome_at cs (next (format id n) s) k).buffer ≡ buf) × (moved (outcome_at cs (next (format id n) s) k).answer ≡ 0)

-- .. for no call but a read puts anything into a buffer
abbrev pub OnlyReadsHandOver : Type 0
OnlyReadsHandOver =
    (c : Call) (s : State)
    → ((caller lun sel num : ℕ) (fmt : Bool) (buf : List ℕ) → c ≢ read caller lun sel num fmt buf) → (step c s).buffer ≡ given c

-- "Old volumes have 0 there": soundness as it was before there were codes, with bytes 22-23 of an entry zero. They had no record counts
-- either; bytes 28-31 of a sequential entry were zero
unfoldable pub valid_before_codes : List ℕ → Bool
valid_before_codes e = eqb (byte e 0) 1 and leb (kind e) 1 and descriptor (described e) and eqb (word e 22) 0 and extent_good e

unfoldable pub sound_before_codes : List ℕ → Bool
sound_before_codes img =
    sound1 img and (all (λ e. unused e or valid_before_codes e) (entries img) and names_differ (entries img)) and sound3 img and sound4 img
    and sound5 img and counts_are no_count img

-- .. such volumes can be brought up, and every file on them is for everyone to read, whatever code is offered
pub record OldVolumes : Type 0 where
  pub can_be_brought_up : (img : List ℕ) → sound_before_codes img ≡ true → sound_before img ≡ true
  pub stay_readable : (img : List ℕ) → sound_before_codes img ≡ true → (k : ℕ) → File img k
      → (caller offered : ℕ) → may_read caller offered (entry_at img k) ≡ true
