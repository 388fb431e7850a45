-- The image of a volume just formatted, from where it has its parts. Defines RULES, Format (what it does).
use Rattle.std.specs.Prelude.{List, ◌++◌, ℕ, ◌*◌, ◌-◌}
use Rattle.lists.specs.Parts.{bytes2, blanks, filled}
use Rattle.volume.specs.Volume.{system_of}
use Rattle.volume.specs.Sat.{sat_of}
use Rattle.volume.specs.declared.locate.Layout.{Layout}

-- RULES, Format: the SAT in sector 1, the directory from sector 2 on
abbrev pub fresh_layout : ℕ → ℕ → Layout
fresh_layout t d = record { t = t; sat = 1; dir = 2; dirs = d }

-- RULES, The trailer: of a volume that has its parts there: T, the distances back to the SAT and to the directory, D, and zeros
unfoldable pub trailer_of : Layout → List ℕ
trailer_of p =
    filled 256 (bytes2 p.t ++ (bytes2 (p.t - 1 - p.sat) ++ (bytes2 (p.t - 1 - p.dir) ++ bytes2 p.dirs)))

-- RULES, Format: all bytes zero but for the ID, the SAT that marks the system's sectors, and the trailer
unfoldable pub formatted : List ℕ → ℕ → ℕ → List ℕ
formatted id d t =
    filled 256 id
    ++ (sat_of t (system_of (fresh_layout t d)) ++ (blanks (256 * (t - 3)) ++ trailer_of (fresh_layout t d)))

unfoldable pub formatted_open : Unit {0}
unfolding trailer_of formatted
formatted_open = tt
