-- Where things are on a volume, and point 1 of soundness.
-- Defines RULES, The trailer; Owners of sectors (the system's); Soundness (point 1).
use Rattle.std.specs.Prelude.{List, ◌∷◌, Bool, ℕ, ◌-◌, ◌+◌, ◌*◌, leb, eqb, ltb, length, take, drop}
use Rattle.numbers.specs.Numbers.{fewest_sectors, most_sectors, most_dirs}
use Rattle.lists.specs.Parts.{sector, sectors, word, zeros}
use Rattle.lists.specs.Lists.{range, ◌and◌}
use Rattle.volume.specs.Names.{volume_id}
use Rattle.volume.specs.declared.locate.Layout.{Layout}

-- RULES, The trailer: sector T-1
unfoldable pub trailer : List ℕ → List ℕ
trailer img = sector (sectors img - 1) img

-- RULES, The trailer: word 2 is the distance back to the SAT, word 4 the one to the directory's first sector, word 6 is D
abbrev pub sat_back : List ℕ → ℕ
sat_back tr = word tr 2

abbrev pub dir_back : List ℕ → ℕ
dir_back tr = word tr 4

abbrev pub dir_count : List ℕ → ℕ
dir_count tr = word tr 6

unfoldable pub sat_at : List ℕ → ℕ
sat_at img = sectors img - 1 - sat_back (trailer img)

unfoldable pub dir_at : List ℕ → ℕ
dir_at img = sectors img - 1 - dir_back (trailer img)

unfoldable pub dirs : List ℕ → ℕ
dirs img = dir_count (trailer img)

unfoldable pub sat : List ℕ → List ℕ
sat img = sector (sat_at img) img

-- RULES, Owners of sectors: the system owns sector 0, the SAT, the trailer and the directory's
unfoldable pub system_of : Layout → List ℕ
system_of p = 0 ∷ p.sat ∷ (p.t - 1) ∷ range p.dir p.dirs

-- where a volume has its parts, and the system sectors that it has by them
unfoldable pub layout_of : List ℕ → Layout
layout_of img = record { t = sectors img; sat = sat_at img; dir = dir_at img; dirs = dirs img }

unfoldable pub system : List ℕ → List ℕ
system img = system_of (layout_of img)

-- RULES, Words and numbers: T and D within their limits
unfoldable pub in_range : ℕ → ℕ → Bool
in_range t d = leb fewest_sectors t and leb t most_sectors and leb 1 d and leb d most_dirs

-- RULES, Soundness: point 1, the image's length, T and D, the ID, the trailer's word 0 and its zeros, distances below T, and the
-- directory's last sector
unfoldable pub sound1 : List ℕ → Bool
sound1 img =
    eqb (length img) (256 * sectors img) and in_range (sectors img) (dirs img) and volume_id (take 4 img)
    and eqb (word (trailer img) 0) (sectors img) and zeros (drop 8 (trailer img)) and ltb (sat_back (trailer img)) (sectors img)
    and ltb (dir_back (trailer img)) (sectors img) and leb (dir_at img + dirs img) (sectors img)

unfoldable pub volume_open : Unit {0}
unfolding trailer sat_at dir_at dirs sat system_of layout_of system in_range sound1
volume_open = tt
