-- Places in a stream: where records start, and one step of the walk over variable records.
use Rattle.std.specs.Prelude.{if◌then◌else◌, List, Bool, ℕ, ◌+◌, ◌%◌, eqb, leb, length, take}
use Rattle.numbers.specs.Numbers.{record_limit}
use Rattle.lists.specs.Lists.{◌and◌}
use Rattle.lists.specs.Parts.{word, part, zeros}
use Rattle.records.specs.Records.{stream_of, records_of}

-- bytes before a record's data: the count word of a variable one
unfoldable pub head_of : ℕ → ℕ
head_of l = if eqb l 0 then 2 else 0

-- where record i of the stream s starts
unfoldable pub place_of : ℕ → List ℕ → ℕ → ℕ
place_of l s i = length (stream_of l (take i (records_of l s)))

-- the next place, after a variable record at p with n data bytes
abbrev pub past_of : ℕ → ℕ → ℕ
past_of p n = p + 2 + n + n % 2

-- a whole variable record stands at p
unfoldable pub good_at : List ℕ → ℕ → Bool
good_at s p =
    leb (p + 2) (length s) and leb (word s p) record_limit and leb (past_of p (word s p)) (length s)
    and zeros (part (p + 2 + word s p) (word s p % 2) s)

unfoldable pub next_at : List ℕ → ℕ → ℕ
next_at s p = past_of p (word s p)
