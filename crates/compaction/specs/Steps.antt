-- Steps without the tests that end a compaction. Defines no heading of RULES.
use Rattle.std.specs.Prelude.{List, ℕ, zero, suc}
use Rattle.compaction.specs.Compaction.{stepped}

-- m steps, one after the other
unfoldable pub steps_of : ℕ → List ℕ → List ℕ
steps_of zero img = img
steps_of (suc m) img = steps_of m (stepped img)
