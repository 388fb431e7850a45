-- The two codings of bytes in a transfer to or from a sequential file.
use Rattle.std.specs.Prelude.{if◌then◌else◌, Bool, List, ℕ, Result, Ok, Err, length, ltb}
use Rattle.lists.specs.Parts.{over}
use Rattle.work.specs.declared.Refusal.{Refusal}
use Rattle.work.specs.declared.Refusal.TheVariants.{BadLength}
use Rattle.work.specs.Code.Runs.{text_fits}

-- bytes as they are
abbrev pub same : List ℕ → List ℕ
same bs = bs

-- texts are sent to variable files alone
abbrev pub text_fits_in : ℕ → List ℕ → Bool
text_fits_in l bs = text_fits bs

-- bytes handed over to a buffer: how many they are, unless it is shorter; and the buffer then
unfoldable pub handed : List ℕ → List ℕ → Result ℕ Refusal
handed bs buf = if ltb (length buf) (length bs) then Err BadLength else Ok (length bs)

unfoldable pub buffer_after : List ℕ → List ℕ → List ℕ
buffer_after bs buf = if ltb (length buf) (length bs) then buf else over bs buf
