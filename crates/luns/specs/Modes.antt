-- Modes: what each reads, writes and excludes, and which two stand beside each other. Defines RULES, Modes.
use Rattle.std.specs.Prelude.{if◌then◌else◌, Bool, true, false, not, ℕ, eqb}
use Rattle.lists.specs.Lists.{◌and◌, ◌or◌}
use Rattle.luns.specs.declared.Mode.{Mode}
use Rattle.luns.specs.declared.Mode.TheVariants.{Pr, Er, Pw, Ew, Prpw, Prew, Erpw, Erew}

-- RULES, Modes: the numbers 0 to 7; a number above 7 is refused before it is looked up
unfoldable pub mode_of : ℕ → Mode
mode_of k =
    if eqb k 0 then Pr else if eqb k 1 then Er else if eqb k 2 then Pw else if eqb k 3 then Ew
    else if eqb k 4 then Prpw else if eqb k 5 then Prew else if eqb k 6 then Erpw else Erew

-- the number of each
abbrev pub mode_number : Mode → ℕ
mode_number Pr = 0
mode_number Er = 1
mode_number Pw = 2
mode_number Ew = 3
mode_number Prpw = 4
mode_number Prew = 5
mode_number Erpw = 6
mode_number Erew = 7

-- RULES, Modes: what each reads and writes, and what it excludes
abbrev pub reads : Mode → Bool
reads Pr = true
reads Er = true
reads Pw = false
reads Ew = false
reads Prpw = true
reads Prew = true
reads Erpw = true
reads Erew = true

abbrev pub writes : Mode → Bool
writes Pr = false
writes Er = false
writes Pw = true
writes Ew = true
writes Prpw = true
writes Prew = true
writes Erpw = true
writes Erew = true

abbrev pub excludes_reading : Mode → Bool
excludes_reading Pr = false
excludes_reading Er = true
excludes_reading Pw = false
excludes_reading Ew = false
excludes_reading Prpw = false
excludes_reading Prew = false
excludes_reading Erpw = true
excludes_reading Erew = true

abbrev pub excludes_writing : Mode → Bool
excludes_writing Pr = false
excludes_writing Er = false
excludes_writing Pw = false
excludes_writing Ew = true
excludes_writing Prpw = false
excludes_writing Prew = true
excludes_writing Erpw = false
excludes_writing Erew = true

-- RULES, Modes: one mode shuts out another; two are compatible if neither shuts out the other
unfoldable pub shuts_out : Mode → Mode → Bool
shuts_out a b = excludes_reading a and reads b or excludes_writing a and writes b

unfoldable pub compatible : Mode → Mode → Bool
compatible a b = not (shuts_out a b or shuts_out b a)

unfoldable pub modes_open : Unit {0}
unfolding mode_of shuts_out compatible
modes_open = tt
