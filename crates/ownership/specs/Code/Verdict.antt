-- What this layer judges of any bytes: soundness but for the streams, where things are, and how many slots are in use.
use Rattle.std.specs.Prelude.{if◌then◌else◌, Bool, List, ℕ, length, Option, Some, None}
use Rattle.lists.specs.Lists.{◌and◌}
use Rattle.volume.specs.Volume.{sound1, layout_of}
use Rattle.volume.specs.Directory.{sound2}
use Rattle.volume.specs.Code.Used.{used_slots}
use Rattle.ownership.specs.Blocks.{sound3}
use Rattle.ownership.specs.Owners.{sound5}
use Rattle.ownership.specs.declared.judge.Judged.{Judged}

-- Sound, 1, 2, 3 (but for the streams' tails) and 5
unfoldable pub owner_sound : List ℕ → Bool
owner_sound img = sound1 img and sound2 img and sound3 img and sound5 img

-- where things are on the volume, and how many slots are in use
abbrev pub judged_as : List ℕ → Judged
judged_as img = record { p = layout_of img; files = length (used_slots img) }

unfoldable pub judged_of : List ℕ → Option Judged
judged_of img = if owner_sound img then Some (judged_as img) else None
