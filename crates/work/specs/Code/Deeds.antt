-- What the work of a call comes to, as its function hands it back: its answer, and image and buffer after it. Each is the rules of the
-- call's own, and then its change.
use Rattle.std.specs.Prelude.{Bool, List, [], ℕ, length, Result, Ok, Err}
use Rattle.lists.specs.Parts.{sectors}
use Rattle.volume.specs.Formatted.{formatted}
use Rattle.volume.specs.Directory.{entry_at}
use Rattle.files.specs.Changes.{updated, brought_up}
use Rattle.files.specs.declared.replace.ReplaceError.{ReplaceError}
use Rattle.files.specs.declared.replace.ReplaceError.TheVariants as replacing
use Rattle.work.specs.declared.Refusal.{Refusal}
use Rattle.work.specs.declared.Refusal.TheVariants.{PastEnd, OtherLength}
use Rattle.work.specs.declared.Transfer.{Transfer}
use Rattle.work.specs.Refusals.{Rule, ruled}
use Rattle.work.specs.Transfers.{Moving, moving, read_rules, reading, store_rules, write_rules, written, writing, room_rules}
use Rattle.work.specs.Transfers.{replace_rules, update_rules, updating}
use Rattle.work.specs.Volumes.{format_rules, bring_up_rules, allocate_rules, new_file, place_rules, named_rules, slot_of}

pub record Deed : Type 0 where
  pub answer : Result Transfer Refusal
  pub image : List ℕ
  pub buffer : List ℕ

-- so many bytes moved, from that number on, so many of them
abbrev pub done : ℕ → ℕ → ℕ → Result Transfer Refusal
done b i n = Ok (record { bytes = b; from = i; count = n })

abbrev pub deed : Result Transfer Refusal → List ℕ → List ℕ → Deed
deed a img buf = record { answer = a; image = img; buffer = buf }

-- by these rules, on an image and a buffer that a refusal leaves: that change
unfoldable pub done_by : List Rule → List ℕ → List ℕ → Deed → Deed
done_by rs img buf d = ruled rs (λ why. deed (Err why) img buf) d

unfoldable pub moved : Moving → Deed
moved m = deed (done m.bytes m.from m.count) m.image m.buffer

-- a change with no data
unfoldable pub quiet : List ℕ → Deed
quiet img = deed (done 0 0 0) img []

unfoldable pub read_deed : List ℕ → List ℕ → ℕ → Bool → List ℕ → Deed
read_deed img e i fmt buf = done_by (read_rules img e i fmt (length buf)) img buf (moved (reading img e i fmt buf))

unfoldable pub write_deed : List ℕ → ℕ → ℕ → Bool → List ℕ → Deed
write_deed img k i fmt bs = done_by (write_rules img (entry_at img k) i fmt bs) img bs (moved (writing img k i fmt bs))

unfoldable pub update_deed : List ℕ → List ℕ → ℕ → Bool → List ℕ → Deed
update_deed img e i fmt bs = done_by (update_rules img e i fmt bs) img bs (moved (updating img e i fmt bs))

-- Of a record that is stored as ss for the bytes bs that were sent, which are of a good length: as number i; if it is the next one, as
-- far as there is room for it; in the place of record i
unfoldable pub store_deed : List ℕ → ℕ → ℕ → List ℕ → List ℕ → Deed
store_deed img k i ss bs =
    done_by (store_rules img (entry_at img k) i ss) img bs (moved (moving (entry_at img k) i (length bs) (written k i ss img) bs))

unfoldable pub append_deed : List ℕ → ℕ → ℕ → List ℕ → List ℕ → Deed
append_deed img k i ss bs =
    done_by (room_rules img (entry_at img k) ss) img bs (moved (moving (entry_at img k) i (length bs) (written k i ss img) bs))

unfoldable pub replace_deed : List ℕ → List ℕ → ℕ → List ℕ → List ℕ → Deed
replace_deed img e i ss bs = done_by (replace_rules img e i ss) img bs (moved (moving e i (length bs) (updated e i ss img) bs))

unfoldable pub format_deed : List ℕ → List ℕ → ℕ → Deed
format_deed img id n = done_by (format_rules img id n) img [] (quiet (formatted id n (sectors img)))

unfoldable pub bring_up_deed : List ℕ → Deed
bring_up_deed img = done_by (bring_up_rules img) img [] (quiet (brought_up img))

unfoldable pub allocate_deed : List ℕ → ℕ → List ℕ → ℕ → ℕ → ℕ → ℕ → Deed
allocate_deed img caller desc k n l rc = done_by (allocate_rules img caller desc k n l rc) img [] (quiet (new_file img desc k n l rc))

-- a file that may be made, if an entry and a run are there
unfoldable pub place_deed : List ℕ → List ℕ → ℕ → ℕ → ℕ → ℕ → Deed
place_deed img desc k n l rc = done_by (place_rules img k n) img [] (quiet (new_file img desc k n l rc))

-- the slot of a descriptor
unfoldable pub sought_of : List ℕ → List ℕ → Result ℕ Refusal
sought_of img desc = ruled (named_rules img desc) Err (Ok (slot_of img desc))

-- why a record is not replaced, as a refusal
abbrev pub refusal_of : ReplaceError → Refusal
refusal_of replacing.PastEnd = PastEnd
refusal_of replacing.OtherLength = OtherLength
