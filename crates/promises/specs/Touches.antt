-- What a call's touch says of one file, and of one record or sector of it.
use Rattle.std.specs.Prelude.{Bool, true, false, ℕ, ◌+◌, eqb, leb, ltb}
use Rattle.lists.specs.Lists.{◌and◌}
use Rattle.desk.specs.Calls.{Touch, nothing, one_file, Touch-units, record_counts, where_files_lie, everything}

-- whether the file in slot k may change, be it in its bytes, in its entry or in where it lies
unfoldable pub changes : Touch → ℕ → Bool
changes nothing k = false
changes (one_file j) k = eqb j k
changes (Touch-units j i n) k = eqb j k
changes record_counts k = true
changes where_files_lie k = true
changes everything k = true

-- whether the bytes of the file in slot k may change; its record count may, and where it lies may, all the same
unfoldable pub rewrites : Touch → ℕ → Bool
rewrites nothing k = false
rewrites (one_file j) k = eqb j k
rewrites (Touch-units j i n) k = eqb j k
rewrites record_counts k = false
rewrites where_files_lie k = false
rewrites everything k = true

-- whether what unit u of slot k held may end: its record, or the bytes of its sector. (The unit that a sequential write touches is the
-- new record, whose number is the record count: no record that is there ends by it.)
unfoldable pub ends : Touch → ℕ → ℕ → Bool
ends nothing k u = false
ends (one_file j) k u = eqb j k
ends (Touch-units j i n) k u = eqb j k and leb i u and ltb u (i + n)
ends record_counts k u = false
ends where_files_lie k u = false
ends everything k u = true
