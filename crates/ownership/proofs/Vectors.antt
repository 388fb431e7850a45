-- Computed examples of this layer's definitions: an edit of a definition that breaks one is refused here.
use mathlib.Core.List.{List, [], ◌∷◌, ◌++◌}
use mathlib.Core.Path.{◌≡◌, refl}
use mathlib.Core.Bool.{Bool, true, false}
use Prim.Native.Nat.{ℕ, ◌+◌}
use lib.ListN.{take, drop, replicate, length}
use Rattle.numbers.specs.Numbers.{record_limit}
use Rattle.lists.specs.Lists.{◌and◌, same, lists_open}
use Rattle.lists.specs.Parts.{parts_open}
use Rattle.volume.specs.Volume.{trailer, sat, sound1, volume_open}
use Rattle.volume.specs.Directory.{sound2, directory_open, fields, entry, valid, names_differ}
use Rattle.volume.specs.Sat.{one, free, sat_open, with_bits, put_sat, lowest_run, lowest}
use Rattle.volume.specs.Names.{names_open, name}
use Rattle.volume.specs.Formatted.{formatted, formatted_open}
use Rattle.ownership.specs.Blocks.{sound3, blocks_open, extended_by, block_of, sectors_of, block_sound}
use Rattle.ownership.specs.Owners.{sound5, owners_open}

id : List ℕ
id = 0x56 ∷ 0x4F ∷ 0x4C ∷ 32 ∷ []

-- the smallest volume: 16 sectors, of which 12 are free with one directory sector and 5 with eight
looked : List ℕ → List ℕ
looked v =
    take 8 (trailer v)
    ++ (take 2 (sat v)
    ++ (one (same (drop 2 (sat v)) (replicate 254 0xFF)) ∷ one (sound1 v and sound2 v and sound3 v and sound5 v) ∷ free v ∷ []))

formatted_1 : looked (formatted id 1 16) ≡ 0x00 ∷ 0x10 ∷ 0x00 ∷ 0x0E ∷ 0x00 ∷ 0x0D ∷ 0x00 ∷ 0x01 ∷ 0xE0 ∷ 0x01 ∷ 1 ∷ 1 ∷ 12 ∷ []
unfolding looked id lists_open parts_open names_open volume_open directory_open blocks_open owners_open sat_open formatted_open
formatted_1 = refl

formatted_8 : looked (formatted id 8 16) ≡ 0x00 ∷ 0x10 ∷ 0x00 ∷ 0x0E ∷ 0x00 ∷ 0x0D ∷ 0x00 ∷ 0x08 ∷ 0xFF ∷ 0xC1 ∷ 1 ∷ 1 ∷ 5 ∷ []
unfolding looked id lists_open parts_open names_open volume_open directory_open blocks_open owners_open sat_open formatted_open
formatted_8 = refl

-- Free sectors 3, 5, 6 and 8 to 14: the lowest run of 2 is at 5, of 7 at 8, and 8 have none; the lowest three are 3, 5, 6
holed : List ℕ → List ℕ
holed v = put_sat v (with_bits 1 (sat v) (4 ∷ 7 ∷ [])) v

runs : List ℕ → List ℕ
runs v = lowest_run 1 v ∷ lowest_run 2 v ∷ lowest_run 7 v ∷ lowest_run 8 v ∷ (lowest 3 v ++ (free v ∷ []))

runs_found : runs (holed (formatted id 1 16)) ≡ 3 ∷ 5 ∷ 8 ∷ 16 ∷ 3 ∷ 5 ∷ 6 ∷ 10 ∷ []
unfolding runs holed id lists_open parts_open names_open volume_open directory_open blocks_open owners_open sat_open formatted_open
runs_found = refl

-- sectors 7, 3, 4 and 9 make segments (7,1), (3,2), (9,1), in that order
grown : List (List ℕ)
grown = extended_by [] (7 ∷ 3 ∷ 4 ∷ 9 ∷ [])

grown_segments : sectors_of (block_of grown 4 1000) ++ (length grown ∷ one (block_sound 10 (block_of grown 4 1024)) ∷ one (block_sound 9 (block_of grown 4 1024)) ∷ one
    (block_sound 10 (block_of grown 4 1025)) ∷ [])
    ≡ 7 ∷ 3 ∷ 4 ∷ 9 ∷ 3 ∷ 1 ∷ 0 ∷ 0 ∷ []
unfolding grown lists_open parts_open blocks_open
grown_segments = refl

-- names: a letter first, then letters and digits, then only spaces
judged_names : List Bool
judged_names =
    name (65 ∷ 57 ∷ 90 ∷ 32 ∷ []) ∷ name (57 ∷ 65 ∷ []) ∷ name (65 ∷ 32 ∷ 65 ∷ []) ∷ name (32 ∷ 32 ∷ []) ∷ name (65 ∷ 91 ∷ []) ∷ []

names_judged : judged_names ≡ true ∷ false ∷ false ∷ false ∷ false ∷ []
unfolding judged_names lists_open parts_open names_open
names_judged = refl

-- an entry is valid up to the record limit; two of one name clash, and two unused ones do not; a read-protect code is for files of users
-- other than 0
file : ℕ → ℕ → ℕ → List ℕ
file user rc l = entry (fields 1 (0 ∷ user ∷ (replicate 8 32 ++ (88 ∷ replicate 7 32 ++ (65 ∷ 32 ∷ [])))) rc l 6 0)

judged_entries : List Bool
judged_entries =
    valid (file 5 0 record_limit) ∷ valid (file 5 0 (1 + record_limit)) ∷ names_differ (file 5 0 0 ∷ file 5 0 7 ∷ [])
    ∷ names_differ (replicate 32 0 ∷ replicate 32 0 ∷ file 5 0 0 ∷ [])
    ∷ valid (file 5 255 0) ∷ valid (file 0 0 0) ∷ valid (file 0 1 0) ∷ []

entries_judged : judged_entries ≡ true ∷ false ∷ false ∷ true ∷ true ∷ true ∷ false ∷ []
unfolding judged_entries file lists_open parts_open names_open directory_open
entries_judged = refl
