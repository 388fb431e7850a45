-- Logical units, the places that selectors name, and whether sixteen fit a volume.
-- Defines RULES, Logical units; Places and selectors; Fitting.
use Rattle.std.specs.Prelude.{if◌then◌else◌, false, Bool, not, true, List, [], ◌∷◌, ℕ, ◌+◌, ◌-◌, eqb, ltb, leb, length}
use Rattle.numbers.specs.Numbers.{most_moved, last_user, lun_count}
use Rattle.lists.specs.Lists.{◌and◌, ◌or◌, all, some}
use Rattle.volume.specs.Directory.{contiguous, entry_at, unused, owner}
use Rattle.files.specs.Files.{extent}
use Rattle.files.specs.Rights.{has_right, may_read}
use Rattle.luns.specs.declared.Mode.TheVariants.{Pr}
use Rattle.luns.specs.declared.Place.TheVariants.{Fresh, At}
use Rattle.luns.specs.declared.Lun.{Lun}
use Rattle.luns.specs.declared.Place.{Place}
use Rattle.luns.specs.Modes.{compatible, reads, writes}

-- RULES, Logical units: a free LUN, as close and format leave it
unfoldable pub free_lun : Lun
free_lun = record { held = false; user = 0; slot = 0; mode = Pr; offered = 0; place = Fresh }

-- the same assignment at another place
unfoldable pub moved_to : Place → Lun → Lun
moved_to p u = record { held = u.held; user = u.user; slot = u.slot; mode = u.mode; offered = u.offered; place = p }

-- RULES, Places and selectors: the target of Next, Current, Prior and Random, 0 to 3 in that order
unfoldable pub target : ℕ → ℕ → Place → ℕ
target sel num Fresh = if eqb sel 3 then num else 0
target sel num (At i n) = if eqb sel 0 then i + n else if eqb sel 1 then i else if eqb sel 2 then i - 1 else num

-- RULES, Places and selectors: no target: a selector above 3, Current when Fresh, Prior when Fresh or At 0
unfoldable pub placeless : ℕ → Place → Bool
placeless sel Fresh = ltb 3 sel or eqb sel 1 or eqb sel 2
placeless sel (At i n) = ltb 3 sel or eqb sel 2 and eqb i 0

-- two LUNs agree unless they hold one file in modes that clash
unfoldable pub agree : Lun → Lun → Bool
agree u v = not (u.held and v.held and eqb u.slot v.slot) or compatible u.mode v.mode

unfoldable pub all_agree : List Lun → Bool
all_agree [] = true
all_agree (u ∷ us) = all (agree u) us and all_agree us

-- RULES, Fitting: the place exists
unfoldable pub place_exists : List ℕ → List ℕ → Place → Bool
place_exists img e Fresh = true
place_exists img e (At i n) =
    if contiguous e then leb 1 n and leb n most_moved and leb (i + n) (extent img e) else eqb n 1 and ltb i (extent img e)

-- RULES, Rights: a LUN that reads has the right to, by the code that it keeps
unfoldable pub reads_by_right : List ℕ → Lun → Bool
reads_by_right img u = not (reads u.mode) or may_read u.user u.offered (entry_at img u.slot)

-- RULES, Fitting: of a held LUN, the slot is in use, the user is in range and has the right if the mode writes, and the right to read if
-- it reads, the place exists
unfoldable pub lun_fits : List ℕ → Lun → Bool
lun_fits img u =
    not u.held
    or not (unused (entry_at img u.slot)) and leb u.user last_user
    and (not (writes u.mode) or has_right u.user (owner (entry_at img u.slot)))
    and reads_by_right img u
    and place_exists img (entry_at img u.slot) u.place

-- RULES, Fitting: sixteen LUNs, each as it has to be, and any two of one slot with compatible modes
unfoldable pub fits : List ℕ → List Lun → Bool
fits img us = eqb (length us) lun_count and all (lun_fits img) us and all_agree us

-- RULES, Status numbers: $0D, some held LUN has the file's slot
unfoldable pub holds_slot : ℕ → Lun → Bool
holds_slot k u = u.held and eqb u.slot k

unfoldable pub is_held : List Lun → ℕ → Bool
is_held us k = some (holds_slot k) us

unfoldable pub luns_open : Unit {0}
unfolding free_lun moved_to target placeless agree all_agree place_exists reads_by_right lun_fits fits holds_slot is_held
luns_open = tt
