-- What a slot of the directory holds, as the code that frees it has it.
use Rattle.std.specs.Prelude.{if◌then◌else◌, List, ℕ}
use Rattle.volume.specs.Directory.{unused, contiguous, start, size}
use Rattle.ownership.specs.declared.owners.Held.{Held}
use Rattle.ownership.specs.declared.owners.Held.TheVariants.{Nothing, Run, Chain}

-- an unused entry nothing, a contiguous file a run, a sequential one a chain from its access block on
unfoldable pub held_by : List ℕ → Held
held_by e = if unused e then Nothing else (if contiguous e then Run (start e) (size e) else Chain (start e))
