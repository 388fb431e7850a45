-- Demand 3: where the sectors of a sound volume are, and that volumes stay sound.
use Rattle.std.specs.Prelude.{List, [], ◌∷◌, map, ◌≡◌, true, false, ◌≢◌, ℕ, ◌<◌, ◌*◌, get_or, length, leb}
use Rattle.numbers.specs.Numbers.{most_sectors}
use Rattle.lists.specs.Lists.{among, ◌or◌}
use Rattle.lists.specs.Parts.{sectors}
use Rattle.volume.specs.Volume.{dirs, system, sat}
use Rattle.volume.specs.Directory.{entry_at, unused, contiguous, start}
use Rattle.volume.specs.Sat.{marked}
use Rattle.ownership.specs.Owners.{logical, all_owned}
use Rattle.files.specs.Files.{sound}
use Rattle.luns.specs.Luns.{fits}
use Rattle.desk.specs.Desk.{State}
use Rattle.desk.specs.Answers.{accepts}
use Rattle.desk.specs.Calls.{Call, sent, format, step}
use Rattle.promises.specs.Runs.{run, next, Visit, through}

-- what a caller sends is bytes; so are the bytes of an image
abbrev pub Bytes : List ℕ → Type 0
Bytes b = (i : ℕ) → get_or b i 0 < 256

abbrev pub AllBytes : List Call → Type 0
AllBytes [] = Unit {0}
AllBytes (c ∷ cs) = Bytes (sent c) × AllBytes cs

abbrev pub VisitBytes : List Visit → Type 0
VisitBytes vs = AllBytes (map (λ v. v.call) vs)

-- a call that is not refused
abbrev pub Accepts : Call → State → Type 0
Accepts c s = accepts (step c s).answer ≡ true

-- a sound volume; and a state in which the service works, a sound volume and a desk that fits it
pub record Sound (img : List ℕ) : Type 0 where
  pub is_sound : sound img ≡ true
  pub is_bytes : Bytes img

pub record Good (s : State) : Type 0 where
  pub volume : Sound s.image
  pub is_fitting : fits s.image s.desk.luns ≡ true

-- slot k holds a file; the physical sector of its logical sector a
pub record File (img : List ℕ) (k : ℕ) : Type 0 where
  pub slot : k < 8 * dirs img
  pub used : unused (entry_at img k) ≡ false

abbrev pub leads_to : List ℕ → ℕ → ℕ → ℕ
leads_to img k a = get_or (logical img (entry_at img k)) a 0

abbrev pub HasSector : List ℕ → ℕ → ℕ → Type 0
HasSector img k a = a < length (logical img (entry_at img k))

-- "two pairs of file and logical sector never lead to one physical sector"
abbrev pub OneSectorEach : List ℕ → Type 0
OneSectorEach img =
    (j k a b : ℕ) → File img j → File img k → HasSector img j a → HasSector img k b → leads_to img j a ≡ leads_to img k b → (j ≡ k) × (a ≡ b)

-- "none leads to a system sector or an access block"
abbrev pub NoSystemSector : List ℕ → Type 0
NoSystemSector img = (k a : ℕ) → File img k → HasSector img k a → among (leads_to img k a) (system img) ≡ false

abbrev pub NoAccessBlock : List ℕ → Type 0
NoAccessBlock img =
    (j k a : ℕ) → File img j → File img k → contiguous (entry_at img j) ≡ false → HasSector img k a
    → leads_to img k a ≢ start (entry_at img j)

-- "exactly the sectors nobody owns are marked free": of all the numbers that the SAT has bits for; those from T on count as owned
abbrev pub MarkedExactly : List ℕ → Type 0
MarkedExactly img = (x : ℕ) → x < most_sectors → marked (sat img) x ≡ (leb (sectors img) x or among x (all_owned img))

pub record InOrder (img : List ℕ) : Type 0 where
  pub one_sector_each : OneSectorEach img
  pub no_system_sector : NoSystemSector img
  pub no_access_block : NoAccessBlock img
  pub marked_exactly : MarkedExactly img

-- every sound volume is in order, wherever it comes from
abbrev pub SoundInOrder : Type 0
SoundInOrder = (img : List ℕ) → sound img ≡ true → InOrder img

-- "From a formatted volume and any calls, each given the image and desk that the last one left": from an accepted format of any image
-- on, the volume is sound and in order, and the desk fits it
abbrev pub StaysGood : Type 0
StaysGood =
    (s : State) (id : List ℕ) (n : ℕ) → Accepts (format id n) s → (cs : List Call) → AllBytes cs
    → Good (run cs (next (format id n) s)) × InOrder (run cs (next (format id n) s)).image

-- the same of the volume alone, where any desk comes with each call
abbrev pub StaysSound : Type 0
StaysSound =
    (s : State) (id : List ℕ) (n : ℕ) → Accepts (format id n) s → (vs : List Visit) → VisitBytes vs
    → Sound (through vs (step (format id n) s).image) × InOrder (through vs (step (format id n) s).image)
