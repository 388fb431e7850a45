-- The desk: sixteen LUNs, and what a call may do with one. Defines RULES, The desk; Logical units (whose a LUN is).
use Rattle.std.specs.Prelude.{List, Bool, not, ℕ, replicate, get_or, set, eqb, leb, ltb}
use Rattle.numbers.specs.Numbers.{lun_count, last_user}
use Rattle.lists.specs.Lists.{◌and◌}
use Rattle.volume.specs.Directory.{entry_at}
use Rattle.files.specs.Files.{sound}
use Rattle.luns.specs.Luns.{free_lun, fits, target}
use Rattle.luns.specs.declared.Lun.{Lun}
use Rattle.desk.specs.declared.Desk.{Desk}

-- What a call finds: an image and a desk
pub record State : Type 0 where
  pub image : List ℕ
  pub desk : Desk

abbrev pub state : List ℕ → Desk → State
state img d = record { image = img; desk = d }

unfoldable pub empty_desk : Desk
empty_desk = record { luns = replicate lun_count free_lun }

unfoldable pub lun_at : Desk → ℕ → Lun
lun_at d k = get_or d.luns k free_lun

unfoldable pub put_lun : Desk → ℕ → Lun → Desk
put_lun d k u = record { luns = set d.luns k u }

-- RULES, Status numbers: $6F, unless the volume is sound and the desk fits it
unfoldable pub ready : State → Bool
ready s = sound s.image and fits s.image s.desk.luns

-- RULES, Logical units: a LUN that is the caller's; RULES, Status numbers: $03 if it is not, or if the caller is out of range
unfoldable pub mine : Desk → ℕ → ℕ → Bool
mine d caller lun =
    leb caller last_user and ltb lun lun_count and (lun_at d lun).held and eqb (lun_at d lun).user caller

-- RULES, Status numbers: $03 of assign, unless caller and LUN are in range and the LUN is free
unfoldable pub spare : Desk → ℕ → ℕ → Bool
spare d caller lun = leb caller last_user and ltb lun lun_count and not (lun_at d lun).held

-- RULES, The calls: the file in the LUN's slot, as its entry; RULES, Places and selectors: the target
unfoldable pub file_of : State → ℕ → List ℕ
file_of s lun = entry_at s.image (lun_at s.desk lun).slot

unfoldable pub aimed : State → ℕ → ℕ → ℕ → ℕ
aimed s lun sel num = target sel num (lun_at s.desk lun).place

unfoldable pub desk_open : Unit {0}
unfolding empty_desk lun_at put_lun ready mine spare file_of aimed
desk_open = tt
