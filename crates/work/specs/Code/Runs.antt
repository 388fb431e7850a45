-- Transfers in the numbers that the code has: of a contiguous file its first sector and its size, of a sequential one how many records it
-- has and the bytes of one.
use Rattle.std.specs.Prelude.{if◌then◌else◌, List, [], ◌∷◌, Bool, ℕ, ◌+◌, ◌-◌, ◌*◌, ◌/◌, leb, ltb, length}
use Rattle.numbers.specs.Numbers.{record_limit}
use Rattle.lists.specs.Lists.{◌and◌, ◌or◌}
use Rattle.lists.specs.Parts.{part, over}
use Rattle.text.specs.Packing.{is_text}
use Rattle.work.specs.Refusals.{◌if◌}
use Rattle.work.specs.Code.Deeds.{Deed, deed, done, done_by}
use Rattle.work.specs.declared.Refusal.TheVariants.{BadLength, PastEnd}
use Rattle.work.specs.Transfers.{odd_length}

-- m, or as many as there are from i on up to n
unfoldable pub fewer : ℕ → ℕ → ℕ → ℕ
fewer n i m = if leb (i + m) n then m else n - i

-- of the n sectors from s on: those from number i on
unfoldable pub ran_read : List ℕ → ℕ → ℕ → ℕ → List ℕ → Deed
ran_read img s i k buf = deed (done (256 * k) i k) img (over (part (256 * (s + i)) (256 * k) img) buf)

unfoldable pub read_run : List ℕ → ℕ → ℕ → ℕ → List ℕ → Deed
read_run img s n i buf =
    done_by (BadLength if odd_length (length buf) ∷ PastEnd if leb n i ∷ []) img buf (ran_read img s i (fewer n i (length buf / 256)) buf)

-- bytes that may be sent as a text
unfoldable pub text_fits : List ℕ → Bool
text_fits bs = leb (length bs) record_limit and is_text bs

-- k sectors from number i on start at or past the end of n, or cross it
unfoldable pub crosses : ℕ → ℕ → ℕ → Bool
crosses n i k = leb n i or ltb n (i + k)
