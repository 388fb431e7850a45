-- Whether a LUN fits, in the parts that the code judges one after the other; each part's place in `lun_fits` is a law of proofs/.
use Rattle.std.specs.Prelude.{if◌then◌else◌, Bool, not, true, List, ℕ, ◌+◌, leb, eqb, ltb}
use Rattle.numbers.specs.Numbers.{last_user, most_moved}
use Rattle.lists.specs.Lists.{◌and◌, ◌or◌}
use Rattle.volume.specs.Directory.{entry_at, unused, owner}
use Rattle.files.specs.Rights.{has_right}
use Rattle.luns.specs.declared.Lun.{Lun}
use Rattle.luns.specs.Modes.{writes}
use Rattle.luns.specs.Luns.{reads_by_right}
use Rattle.luns.specs.declared.Place.{Place}
use Rattle.luns.specs.declared.Place.TheVariants.{Fresh, At}

-- of a held LUN: its slot is in use, its user in range, a writer has the right, and a reader the right to read
unfoldable pub seated : List ℕ → Lun → Bool
seated img u =
    not (unused (entry_at img u.slot)) and leb u.user last_user
    and (not (writes u.mode) or has_right u.user (owner (entry_at img u.slot)))
    and reads_by_right img u

-- a place in a file of that many records, or sectors if it is contiguous
unfoldable pub place_within : Bool → ℕ → Place → Bool
place_within con n Fresh = true
place_within con n (At i m) = if con then leb 1 m and leb m most_moved and leb (i + m) n else eqb m 1 and ltb i n
