-- The service's numbers. Defines RULES, Words and numbers. Sectors of 256 bytes stand as 256 throughout.
use Rattle.std.specs.Prelude.{ℕ, ◌+◌, ◌/◌}

-- RULES, Words and numbers: T, the sectors of a volume, is 16 to 2,048
abbrev pub fewest_sectors : ℕ
fewest_sectors = 16

abbrev pub most_sectors : ℕ
most_sectors = 2048

-- RULES, Words and numbers: D, the directory's sectors, is 1 to 8
abbrev pub most_dirs : ℕ
most_dirs = 8

-- RULES, Words and numbers: 0 to 62 segments of a sequential file
abbrev pub most_segments : ℕ
most_segments = 62

-- RULES, Words and numbers: 0 to 4,096 data bytes of a record
abbrev pub record_limit : ℕ
record_limit = 4096

-- RULES, Words and numbers: the most new sectors of one append: those of a count word and the longest data, from a sector's start on
abbrev pub most_new : ℕ
most_new = (2 + record_limit + 255) / 256

-- RULES, Words and numbers: 1 to 16 sectors of one contiguous transfer
abbrev pub most_moved : ℕ
most_moved = 16

-- RULES, Words and numbers: LUNs 0 to 15
abbrev pub lun_count : ℕ
lun_count = 16

-- RULES, Words and numbers: users 0 to 65,533
abbrev pub last_user : ℕ
last_user = 65533

-- RULES, Words and numbers: a quota of 0 to 2,048 sectors of one compaction
abbrev pub most_quota : ℕ
most_quota = 2048
