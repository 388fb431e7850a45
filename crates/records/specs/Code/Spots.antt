-- What the walks over a stream answer: how many records it is, where a record's data lies.
use Rattle.std.specs.Prelude.{if◌then◌else◌, List, [], ℕ, ◌+◌, length, get_or, ltb, Option, Some, None}
use Rattle.records.specs.Code.Walk.{good_at, next_at, head_of, place_of}
use Rattle.records.specs.Records.{whole_records, records_of}
use Rattle.records.specs.declared.record.Extent.{Extent}

-- over the variable record at p
unfoldable pub step_at : List ℕ → ℕ → Option ℕ
step_at s p = if good_at s p then Some (next_at s p) else None

-- the number of records, of a stream that is whole records
unfoldable pub counted_of : ℕ → List ℕ → Option ℕ
counted_of l s = if whole_records l s then Some (length (records_of l s)) else None

-- the data of record i: where in the stream, and how long
abbrev pub extent_at : ℕ → List ℕ → ℕ → Extent
extent_at l s i = record { from = place_of l s i + head_of l; len = length (get_or (records_of l s) i []) }

unfoldable pub spot_of : ℕ → List ℕ → ℕ → Option Extent
spot_of l s i = if ltb i (length (records_of l s)) then Some (extent_at l s i) else None
