-- A volume drawn, a letter a sector. Defines no heading of RULES; docs/GUIDE.md, map.
use Rattle.std.specs.Prelude.{if◌then◌else◌, Bool, not, List, map, ℕ, ◌+◌, ◌-◌, eqb, ltb}
use Rattle.lists.specs.Lists.{◌or◌, ◌and◌, range, some, among}
use Rattle.lists.specs.Parts.{sectors, over}
use Rattle.volume.specs.Volume.{sat, system}
use Rattle.volume.specs.Directory.{entries, unused, contiguous, start}
use Rattle.volume.specs.Sat.{is_free}
use Rattle.files.specs.Files.{sound}
use Rattle.compaction.specs.Compaction.{holds_data, holder_of}

-- the letter of slot k: A to Z, a to z, 0 to 9, + and /
unfoldable pub slot_letter : ℕ → ℕ
slot_letter k =
    if ltb k 26 then 65 + k else (if ltb k 52 then 71 + k else (if ltb k 62 then k - 4 else (if eqb k 62 then 43 else 47)))

-- sector x is the access block of an entry's file, a sequential one
unfoldable pub is_block : ℕ → List ℕ → Bool
is_block x e = not (unused e or contiguous e) and eqb (start e) x

-- the letter of sector x: # the system's, . free, its slot's letter if it holds data of a sequential file, @ an access block, = a sector
-- of a contiguous file
unfoldable pub sector_letter : List ℕ → ℕ → ℕ
sector_letter img x =
    if among x (system img) then 35 else (if is_free (sat img) x then 46 else (if holds_data img x then slot_letter (holder_of img x) else
    (if some (is_block x) (entries img) then 64 else 61)))

unfoldable pub picture : List ℕ → List ℕ
picture img = map (sector_letter img) (range 0 (sectors img))

-- what is drawn over a lent list: nothing, if the volume is not sound
unfoldable pub drawn : List ℕ → List ℕ → List ℕ
drawn img out = if sound img then over (picture img) out else out

unfoldable pub picture_open : Unit {0}
unfolding slot_letter is_block sector_letter picture drawn
picture_open = tt
