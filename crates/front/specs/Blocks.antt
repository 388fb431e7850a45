-- The request block: what its bytes ask for, and where the answer goes. Defines RULES, The request block; Codes.
use Rattle.std.specs.Prelude.{if◌then◌else◌, Bool, not, List, [], ◌∷◌, ℕ, ◌/◌, ◌%◌, ◌^◌, eqb, length}
use Rattle.lists.specs.Lists.{◌and◌, ◌or◌, all}
use Rattle.lists.specs.Parts.{byte, word, long, bytes4, put}
use Rattle.desk.specs.Answers.{Answer}
use Rattle.desk.specs.Answers.{status, moved}

-- RULES, The request block: 28 bytes
abbrev pub block_size : ℕ
block_size = 28

-- RULES, The request block: 0 request code, 1 function, 2-3 options, 5 LUN, 8-11 random record number, 12-15 start address, 16-19 end
-- address
abbrev pub request_of : List ℕ → ℕ
request_of b = byte b 0

abbrev pub function_of : List ℕ → ℕ
function_of b = byte b 1

abbrev pub options_of : List ℕ → ℕ
options_of b = word b 2

abbrev pub lun_in : List ℕ → ℕ
lun_in b = byte b 5

abbrev pub number_in : List ℕ → ℕ
number_in b = long b 8

abbrev pub start_in : List ℕ → ℕ
start_in b = long b 12

abbrev pub end_in : List ℕ → ℕ
end_in b = long b 16

-- RULES, Codes: bit k of an options word, whether it is set; whether each bit of a list is clear
abbrev pub bit : ℕ → ℕ → Bool
bit k w = eqb (w / 2 ^ k % 2) 1

unfoldable pub all_clear : List ℕ → ℕ → Bool
all_clear ks w = all (λ k. not (bit k w)) ks

-- RULES, Codes: the bits that ask for what the service does not do: of a transfer; of a rewind all but 2 and 8
unfoldable pub transfer_options : ℕ → Bool
transfer_options w = all_clear (15 ∷ 12 ∷ 11 ∷ 10 ∷ 9 ∷ 7 ∷ 6 ∷ 5 ∷ 4 ∷ 1 ∷ []) w

unfoldable pub rewind_options : ℕ → Bool
rewind_options w = all_clear (14 ∷ 13 ∷ 3 ∷ 0 ∷ []) w and transfer_options w

-- RULES, Codes: bits 14-13 are the selector 0 to 3; formatted if bits 3 and 0 are both clear
abbrev pub selector_in : ℕ → ℕ
selector_in w = w / 2 ^ 13 % 4

unfoldable pub formatted_in : ℕ → Bool
formatted_in w = not (bit 3 w) and not (bit 0 w)

-- RULES, Codes: request $00 with function $01 read, $02 write, $08 update; request $01 with function $02 rewind
unfoldable pub is_transfer : List ℕ → Bool
is_transfer b =
    eqb (request_of b) 0x00 and (eqb (function_of b) 0x01 or eqb (function_of b) 0x02 or eqb (function_of b) 0x08)
    and transfer_options (options_of b)

unfoldable pub is_rewind : List ℕ → Bool
is_rewind b = eqb (request_of b) 0x01 and eqb (function_of b) 0x02 and rewind_options (options_of b)

unfoldable pub supported : List ℕ → Bool
supported b = is_transfer b or is_rewind b

-- RULES, The request block: the status goes to byte 4 and the length to bytes $14 to $17; a block of another length than 28 is not written
unfoldable pub block_after : Answer → List ℕ → List ℕ
block_after a b = if eqb (length b) block_size then put 0x14 (bytes4 (moved a)) (put 4 (status a ∷ []) b) else b

unfoldable pub request_open : Unit {0}
unfolding all_clear transfer_options rewind_options formatted_in is_transfer is_rewind supported block_after
request_open = tt
