-- Desk bytes: what packing keeps, and which desks it is asked to pack.
use Rattle.std.specs.Prelude.{true, false, List, ◌≢◌, ◌≡◌, ℕ, length}
use Rattle.deskbytes.specs.DeskBytes.{desk_size, desk_form, PlainLuns}
use Rattle.desk.specs.declared.Desk.{Desk}
use Rattle.desk.specs.Desk.{State, state, empty_desk}
use Rattle.desk.specs.Calls.{Call, sent, step}
use Rattle.front.specs.Front.{packed_desk, unpacked_desk}
use Rattle.promises.specs.Runs.{run}
use Rattle.promises.specs.Sectors.{Bytes, AllBytes}

-- sixteen LUNs, of which the free ones hold nothing: users below 65,536, slots, n and codes below 256, i below 4,294,967,296, a place At
-- has n of 1 or more
abbrev pub PlainDesk : Desk → Type 0
PlainDesk d = PlainLuns d.luns

-- "`packed_desk` and its reading back are one to one": a plain desk's bytes are of the form, and read back as that desk,
pub record ReadsBack (d : Desk) : Type 0 where
  pub are_bytes : Bytes (packed_desk d)
  pub in_form : desk_form (packed_desk d) ≡ true
  pub as_itself : unpacked_desk (packed_desk d) ≡ d

abbrev pub DeskReadsBack : Type 0
DeskReadsBack = (d : Desk) → PlainDesk d → ReadsBack d

-- so no two plain desks are packed alike;
abbrev pub NoTwoDesksAlike : Type 0
NoTwoDesksAlike = (d e : Desk) → PlainDesk d → PlainDesk e → packed_desk d ≡ packed_desk e → d ≡ e

-- "any 192 bytes are either bad or the packed form of exactly one plain desk"; bytes of another length are bad
pub record StandFor (bs : List ℕ) (d : Desk) : Type 0 where
  pub is_plain : PlainDesk d
  pub packs : packed_desk d ≡ bs

pub record OnlyDesk (bs : List ℕ) (d : Desk) : Type 0 where
  pub this_one : StandFor bs d
  pub no_other : (e : Desk) → StandFor bs e → e ≡ d

pub record OnePlainDesk : Type 0 where
  pub bad_is_none : (bs : List ℕ) → desk_form bs ≡ false → (d : Desk) → PlainDesk d → packed_desk d ≢ bs
  pub else_exactly_one : (bs : List ℕ) → Bytes bs → desk_form bs ≡ true → OnlyDesk bs (unpacked_desk bs)
  pub other_length_is_bad : (bs : List ℕ) → length bs ≢ desk_size → desk_form bs ≡ false

-- "every desk that the calls make from the empty one is plain": one call that is sent bytes, on any image; and so any calls
pub record CallsMakePlain : Type 0 where
  pub empty_is_plain : PlainDesk empty_desk
  pub each_call : (c : Call) (s : State) → Bytes (sent c) → PlainDesk s.desk → PlainDesk (step c s).desk
  pub any_calls : (img : List ℕ) (cs : List Call) → AllBytes cs → PlainDesk (run cs (state img empty_desk)).desk
