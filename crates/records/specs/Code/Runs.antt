-- Runs of a stream: sectors of the map that follow each other in the image, where the stream's bytes stand side by side.
use Rattle.std.specs.Prelude.{if◌then◌else◌, List, Bool, not, ℕ, ◌+◌, ◌-◌, ◌*◌, ◌/◌, ◌%◌, length, get_or, eqb, ltb}
use Rattle.lists.specs.Lists.{first}
use Rattle.records.specs.declared.stream.Run.{Run}

-- the place in the image of the stream's byte p
abbrev pub address_of : List ℕ → ℕ → ℕ
address_of ss p = 256 * get_or ss (p / 256) 0 + p % 256

-- sector j of the map does not follow the one before it
unfoldable pub breaks_at : List ℕ → ℕ → Bool
breaks_at ss j = not (eqb (get_or ss j 0) (get_or ss (j - 1) 0 + 1))

-- where in the map the run of its sector k ends
unfoldable pub run_end : List ℕ → ℕ → ℕ
run_end ss k = first (breaks_at ss) (k + 1) (length ss - (k + 1))

-- the run of the stream from p on: where its byte p stands in the image, and up to which place the bytes after it follow it there
unfoldable pub run_from : List ℕ → ℕ → Run
run_from ss p =
    if ltb (p / 256) (length ss) then record { at = address_of ss p; end = 256 * run_end ss (p / 256) } else record { at = 0; end = 0 }
