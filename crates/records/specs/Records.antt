-- Records and the stream that they make. Defines RULES, Streams and records; Soundness (point 4, of one stream).
use Rattle.std.specs.Prelude.{if◌then◌else◌, Bool, false, List, ◌++◌, [], ◌∷◌, ℕ, ◌%◌, zero, suc, ◌+◌, ◌*◌, ◌/◌, length, take, eqb, leb}
use Rattle.numbers.specs.Numbers.{record_limit}
use Rattle.lists.specs.Lists.{◌and◌, ◌or◌, flat, pieces}
use Rattle.lists.specs.Parts.{bytes2, blanks, part, zeros}

-- RULES, Words and numbers: a record allowed for record length L, 0 for variable ones
unfoldable pub allowed : ℕ → List ℕ → Bool
allowed l r = leb (length r) record_limit and (eqb l 0 or eqb (length r) l)

-- RULES, Streams and records: a record's bytes in the stream of a fixed and of a variable file
unfoldable pub encoded : ℕ → List ℕ → List ℕ
encoded l r = if eqb l 0 then bytes2 (length r) ++ (r ++ blanks (length r % 2)) else r

unfoldable pub stream_of : ℕ → List (List ℕ) → List ℕ
stream_of l rs = flat (encoded l) rs

-- Back from a stream, byte by byte; the first argument says how many bytes to pass over first.
-- `whole`: RULES, Soundness: point 4, these are whole variable records. `cut`: their data
unfoldable pub whole : ℕ → List ℕ → Bool
whole k [] = eqb k 0
whole (suc k) (x ∷ s) = whole k s
whole zero (a ∷ []) = false
whole zero (a ∷ b ∷ s) =
    let n = 256 * a + b in
    leb n record_limit and zeros (part n (n % 2) s) and whole (n + n % 2) s

unfoldable pub cut : ℕ → List ℕ → List (List ℕ)
cut k [] = []
cut (suc k) (x ∷ s) = cut k s
cut zero (a ∷ []) = []
cut zero (a ∷ b ∷ s) = let n = 256 * a + b in take n s ∷ cut (n + n % 2) s

unfoldable pub whole_records : ℕ → List ℕ → Bool
whole_records l s = if eqb l 0 then whole 0 s else eqb (length s % l) 0

unfoldable pub records_of : ℕ → List ℕ → List (List ℕ)
records_of l s = if eqb l 0 then cut 0 s else pieces (length s / l) l s

unfoldable pub records_open : Unit {0}
unfolding allowed encoded stream_of whole cut whole_records records_of
records_open = tt
