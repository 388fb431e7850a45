-- The directory's entries, their fields, and point 2 of soundness. Defines RULES, The directory; Soundness (point 2).
use Rattle.std.specs.Prelude.{if◌then◌else◌, List, [], ◌∷◌, ◌++◌, Bool, not, true, ◌≡◌, ℕ, ◌*◌, ◌+◌, get_or, length, eqb, leb}
use Rattle.numbers.specs.Numbers.{record_limit}
use Rattle.lists.specs.Parts.{part, zeros, byte, word, long, bytes2, bytes4, put}
use Rattle.lists.specs.Lists.{pieces, kept, ◌and◌, same, all, ◌or◌}
use Rattle.volume.specs.Volume.{dir_at, dirs}
use Rattle.volume.specs.Names.{descriptor}

-- RULES, The directory: D sectors in a row, of 32-byte entries, counted from 0 as slots
unfoldable pub entries : List ℕ → List (List ℕ)
entries img = pieces (8 * dirs img) 32 (part (256 * dir_at img) (256 * dirs img) img)

unfoldable pub entry_at : List ℕ → ℕ → List ℕ
entry_at img k = get_or (entries img) k []

-- RULES, The directory: an entry of 32 zeros is unused
abbrev pub unused : List ℕ → Bool
unused = zeros

-- the files that a volume has: its entries in use
unfoldable pub files_in : List ℕ → ℕ
files_in img = length (kept (λ e. not (unused e)) (entries img))

-- RULES, The directory: byte 1 is the type, bytes 2-3 are the owner, bytes 2-21 the descriptor
abbrev pub kind : List ℕ → ℕ
kind e = byte e 1

unfoldable pub contiguous : List ℕ → Bool
contiguous e = eqb (kind e) 0

abbrev pub owner : List ℕ → ℕ
owner e = word e 2

unfoldable pub described : List ℕ → List ℕ
described e = part 2 20 e

-- RULES, The directory: byte 23 is the read-protect code
abbrev pub read_code : List ℕ → ℕ
read_code e = byte e 23

-- RULES, The directory: bytes 24-25 are the record length, 26-27 the first sector or the access block's, 28-29 the sectors of a contiguous
-- file, 28-31 the record count of a sequential one
abbrev pub record_length : List ℕ → ℕ
record_length e = word e 24

abbrev pub start : List ℕ → ℕ
start e = word e 26

abbrev pub size : List ℕ → ℕ
size e = word e 28

abbrev pub record_count : List ℕ → ℕ
record_count e = long e 28

-- the fields of a new file's entry, and the entry that has them; RULES, The directory: byte 0 is 1, byte 22 is zero, and so are 30-31: of a
-- sequential file, whose size is 0, that is a record count of 0
pub record Fields : Type 0 where
  pub kind : ℕ
  pub described : List ℕ
  pub read_code : ℕ
  pub record_length : ℕ
  pub start : ℕ
  pub size : ℕ

abbrev pub fields : ℕ → List ℕ → ℕ → ℕ → ℕ → ℕ → Fields
fields k d rc l s n = record { kind = k; described = d; read_code = rc; record_length = l; start = s; size = n }

unfoldable pub entry : Fields → List ℕ
entry f =
    1 ∷ f.kind ∷ (f.described
    ++ (0 ∷ f.read_code ∷ (bytes2 f.record_length ++ (bytes2 f.start ++ (bytes2 f.size ++ (0 ∷ 0 ∷ []))))))

-- RULES, The directory: the entry with another record count; the same of a sequential file's, and any other entry as it is
unfoldable pub with_count : ℕ → List ℕ → List ℕ
with_count n e = put 28 (bytes4 n) e

unfoldable pub counted_as : ℕ → List ℕ → List ℕ
counted_as n e = if unused e or contiguous e then e else with_count n e

-- RULES, The directory: sectors and record length of a contiguous file, record length of a sequential one
abbrev pub extent_good : List ℕ → Bool
extent_good e =
    if contiguous e then leb 1 (size e) and eqb (word e 30) 0 and eqb (record_length e) 0 else leb (record_length e) record_limit

-- RULES, The directory: files of user 0 have code 0
unfoldable pub code_allowed : ℕ → ℕ → Bool
code_allowed user rc = not (eqb user 0) or eqb rc 0

-- RULES, The directory: what a valid entry holds
unfoldable pub valid : List ℕ → Bool
valid e =
    eqb (byte e 0) 1 and leb (kind e) 1 and descriptor (described e) and eqb (byte e 22) 0 and code_allowed (owner e) (read_code e)
    and extent_good e

-- RULES, Names and descriptors: the entry whose bytes 2-21 equal a descriptor; RULES, The directory: two entries that clash
unfoldable pub named : List ℕ → List ℕ → Bool
named d e = same d (described e)

unfoldable pub clashes : List ℕ → List ℕ → Bool
clashes d e = not (unused d) and not (unused e) and named (described d) e

unfoldable pub names_differ : List (List ℕ) → Bool
names_differ [] = true
names_differ (e ∷ es) = all (λ d. not (clashes e d)) es and names_differ es

-- RULES, Soundness: point 2, every entry is unused or valid, and no two clash
unfoldable pub sound2 : List ℕ → Bool
sound2 img = all (λ e. unused e or valid e) (entries img) and names_differ (entries img)

-- an entry written to slot k where the volume v has its directory
unfoldable pub put_entry : List ℕ → ℕ → List ℕ → List ℕ → List ℕ
put_entry v k e img = put (256 * dir_at v + 32 * k) e img

-- Two entries of one file, which are the same but for the record count of a sequential one: in use or not, type, name, read-protect code,
-- record length, first sector
pub record SameButCount (e e' : List ℕ) : Type 0 where
  pub use_same : unused e' ≡ unused e
  pub kind_same : kind e' ≡ kind e
  pub name_same : described e' ≡ described e
  pub code_same : read_code e' ≡ read_code e
  pub length_same : record_length e' ≡ record_length e
  pub start_same : start e' ≡ start e
  pub contiguous_same : contiguous e ≡ true → e' ≡ e

unfoldable pub directory_open : Unit {0}
unfolding entries entry_at files_in contiguous described entry with_count counted_as code_allowed valid named clashes names_differ sound2 put_entry
directory_open = tt
