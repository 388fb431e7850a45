-- What replacing a record answers, of a sequential file with the entry e.
use Rattle.std.specs.Prelude.{if◌then◌else◌, Bool, List, ℕ, length, eqb, ltb, Result, Ok, Err}
use Rattle.lists.specs.Lists.{◌and◌}
use Rattle.files.specs.Files.{records, record_at}
use Rattle.files.specs.Changes.{updated}
use Rattle.files.specs.declared.replace.ReplaceError.{ReplaceError}
use Rattle.files.specs.declared.replace.ReplaceError.TheVariants.{PastEnd, OtherLength}

-- record i is there, and has n bytes
unfoldable pub is_long : List ℕ → List ℕ → ℕ → ℕ → Bool
is_long img e i n = ltb i (length (records img e)) and eqb n (length (record_at img e i))

-- and the image after it: with r for record i where that is as long, else as it was
abbrev pub replaced_in : List ℕ → ℕ → List ℕ → List ℕ → List ℕ
replaced_in e i r img = if is_long img e i (length r) then updated e i r img else img

unfoldable pub replaced_of : List ℕ → List ℕ → ℕ → ℕ → Result Unit ReplaceError
replaced_of img e i n =
    if ltb i (length (records img e))
    then (if eqb n (length (record_at img e i)) then Ok tt else Err OtherLength)
    else Err PastEnd
