-- What the timed functions answer, whichever way they search. Defines no heading of RULES: nothing of the service cites it.
use Rattle.std.specs.Prelude.{if◌then◌else◌, ◌≡◌, Bool, List, [], ℕ, length, take, eqb, leb}
use Rattle.numbers.specs.Numbers.{most_sectors}
use Rattle.lists.specs.Lists.{◌and◌, range, kept}
use Rattle.lists.specs.Parts.{over}
use Rattle.volume.specs.Sat.{is_free}

-- b has the length of a SAT, and t is at most the sectors of a volume
unfoldable pub is_table : List ℕ → ℕ → Bool
is_table b t = eqb (length b) 256 and leb t most_sectors

-- the answer r of such a table, and 0 of any other
unfoldable pub asked : List ℕ → ℕ → ℕ → ℕ
asked b t r = if is_table b t then r else 0

-- the n lowest free sectors of such a table, if so many are free and there is room for them; else none
unfoldable pub taken : List ℕ → ℕ → ℕ → ℕ → List ℕ
taken b t n room =
    if is_table b t and leb n room and leb n (length (kept (is_free b) (range 0 t))) then take n (kept (is_free b) (range 0 t)) else []

-- they stand at the front of m, which is d otherwise, and r is how many they are
pub record Took (b : List ℕ) (t n : ℕ) (d : List ℕ) (r : ℕ) (m : List ℕ) : Type 0 where
  pub count : r ≡ length (taken b t n (length d))
  pub stored : m ≡ over (taken b t n (length d)) d
