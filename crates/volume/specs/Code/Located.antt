-- Where a volume has its parts, as numbers that the code carries along, how they are found, and what is known of them once point 1 of
-- soundness holds.
use Rattle.std.specs.Prelude.{if◌then◌else◌, List, ◌≡◌, Bool, true, ℕ, ◌+◌, ◌-◌, ◌*◌, ◌≤◌, ◌<◌, length, drop, eqb, leb, ltb, Option, Some, None}
use Rattle.numbers.specs.Numbers.{most_sectors, most_dirs, fewest_sectors}
use Rattle.lists.specs.Parts.{sectors, word, zeros}
use Rattle.lists.specs.Lists.{◌and◌}
use Rattle.volume.specs.Volume.{sat_back, dir_back, dir_count, sat_at, dir_at, dirs, layout_of, sound1}
use Rattle.volume.specs.declared.locate.Layout.{Layout}

unfoldable pub where_of : List ℕ → Option Layout
where_of img = if sound1 img then Some (layout_of img) else None

-- point 1 in the order in which the code asks: the length, the trailer, then the rest
abbrev pub sized_test : List ℕ → Bool
sized_test img = eqb (length img) (256 * sectors img) and leb fewest_sectors (sectors img) and leb (sectors img) most_sectors

abbrev pub trailer_test : ℕ → List ℕ → Bool
trailer_test t tr = eqb (word tr 0) t and zeros (drop 8 tr) and ltb (sat_back tr) t and ltb (dir_back tr) t

abbrev pub dirs_test : ℕ → List ℕ → Bool
dirs_test t tr = leb 1 (dir_count tr) and leb (dir_count tr) most_dirs and leb (t - 1 - dir_back tr + dir_count tr) t

-- p is the layout of img, and point 1 holds: what every function that is handed a layout asks of it
pub record Located (img : List ℕ) (p : Layout) : Type 0 where
  pub is_t : p.t ≡ sectors img
  pub is_sat : p.sat ≡ sat_at img
  pub is_dir : p.dir ≡ dir_at img
  pub is_dirs : p.dirs ≡ dirs img
  pub long : length img ≡ 256 * p.t
  pub low : fewest_sectors ≤ p.t
  pub high : p.t ≤ most_sectors
  pub sat_in : p.sat < p.t
  pub dir_in : p.dir + p.dirs ≤ p.t
  pub one_dir : 1 ≤ p.dirs
  pub few_dirs : p.dirs ≤ most_dirs
  pub sound_1 : sound1 img ≡ true

-- a layout that a volume can have: each part in range and inside it
pub record LaidOut (p : Layout) : Type 0 where
  pub some : 1 ≤ p.t
  pub high : p.t ≤ most_sectors
  pub sat_in : p.sat < p.t
  pub dir_in : p.dir + p.dirs ≤ p.t
  pub dir_low : p.dir < p.t

-- where the entry in slot k starts, and that it lies in these bytes
abbrev pub entry_byte : Layout → ℕ → ℕ
entry_byte p k = 256 * p.dir + 32 * k

pub record EntryIn (img : List ℕ) (p : Layout) (k : ℕ) : Type 0 where
  pub places : p.dir ≤ most_sectors
  pub slot : k < 8 * most_dirs
  pub inside : entry_byte p k + 32 ≤ length img
