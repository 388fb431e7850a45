-- Rules of format, of bring-up, of allocate and of finding a file, of the volume alone. Defines RULES, Format; Bring-up; Allocate; Orders
-- of refusals (theirs).
use Rattle.std.specs.Prelude.{if◌then◌else◌, not, Bool, List, [], ◌∷◌, ℕ, ◌*◌, length, eqb, leb, ltb}
use Rattle.numbers.specs.Numbers.{most_sectors, record_limit}
use Rattle.lists.specs.Lists.{◌and◌, index, some}
use Rattle.lists.specs.Parts.{sectors}
use Rattle.volume.specs.Names.{volume_id, descriptor, user_of}
use Rattle.volume.specs.Volume.{in_range}
use Rattle.volume.specs.Directory.{entries, named, unused, code_allowed}
use Rattle.volume.specs.Sat.{lowest_run}
use Rattle.files.specs.Changes.{taken, allocated}
use Rattle.files.specs.Files.{sound_before}
use Rattle.files.specs.Rights.{has_right}
use Rattle.work.specs.declared.Refusal.TheVariants.{OutOfRange, NoFile, BadDescriptor, NoRoom, DirectoryFull, UnknownType, NoRight}
use Rattle.work.specs.declared.Refusal.TheVariants.{NameTaken, NotSound}
use Rattle.work.specs.Refusals.{Rule, ◌if◌}

-- RULES, Orders of refusals: format: $60
unfoldable pub format_rules : List ℕ → List ℕ → ℕ → List Rule
format_rules img id n = OutOfRange if not (eqb (length img) (256 * sectors img) and in_range (sectors img) n and volume_id id) ∷ []

-- RULES, Orders of refusals: bring-up: $6F, by the rule of before there were record counts
unfoldable pub bring_up_rules : List ℕ → List Rule
bring_up_rules img = NotSound if not (sound_before img) ∷ []

-- RULES, Names and descriptors: the file of a descriptor is the first entry that equals it: its slot, or the number of entries
unfoldable pub slot_of : List ℕ → List ℕ → ℕ
slot_of img desc = index (named desc) (entries img)

unfoldable pub exists : List ℕ → List ℕ → Bool
exists img desc = some (named desc) (entries img)

-- RULES, Status numbers: the file of a descriptor: $64, $17
unfoldable pub named_rules : List ℕ → List ℕ → List Rule
named_rules img desc = BadDescriptor if not (descriptor desc) ∷ NoFile if not (exists img desc) ∷ []

-- RULES, Status numbers: $60 of allocate: size and record length by the type; `code_allowed` of the directory has the code
unfoldable pub sized : ℕ → ℕ → ℕ → Bool
sized k n l = if eqb k 0 then leb 1 n and leb n most_sectors and eqb l 0 else eqb n 0 and leb l record_limit

-- RULES, Allocate: an unused entry, and a free run: $67, $63
unfoldable pub place_rules : List ℕ → ℕ → ℕ → List Rule
place_rules img k n =
    DirectoryFull if not (some unused (entries img))
    ∷ NoRoom if leb (sectors img) (lowest_run (taken k n) img)
    ∷ []

-- RULES, Orders of refusals: allocate, from $64 on: $64, $02, $60, $0B, $66, $67, $63
unfoldable pub allocate_rules : List ℕ → ℕ → List ℕ → ℕ → ℕ → ℕ → ℕ → List Rule
allocate_rules img caller desc k n l rc =
    BadDescriptor if not (descriptor desc)
    ∷ UnknownType if ltb 1 k
    ∷ OutOfRange if not (sized k n l and code_allowed (user_of desc) rc)
    ∷ NoRight if not (has_right caller (user_of desc))
    ∷ NameTaken if exists img desc
    ∷ place_rules img k n

-- RULES, Allocate: the lowest unused entry, and the lowest free run: what becomes of the image
unfoldable pub new_file : List ℕ → List ℕ → ℕ → ℕ → ℕ → ℕ → List ℕ
new_file img desc k n l rc = allocated (index unused (entries img)) desc k n l rc (lowest_run (taken k n) img) img

unfoldable pub volumes_open : Unit {0}
unfolding format_rules bring_up_rules slot_of exists named_rules sized place_rules allocate_rules new_file
volumes_open = tt
