-- The transfers, as far as they speak of the volume alone. Defines RULES, Read; Write; Update; Orders of refusals (after the opening).
-- Each is of the file with the entry e, from its record or sector i on.
use Rattle.std.specs.Prelude.{if◌then◌else◌, List, [], ◌∷◌, Bool, not, ℕ, ◌/◌, ◌*◌, ◌%◌, ◌+◌, ◌-◌, eqb, ltb, leb, length}
use Rattle.numbers.specs.Numbers.{most_moved, most_segments}
use Rattle.lists.specs.Lists.{◌or◌, ◌and◌}
use Rattle.lists.specs.Parts.{over}
use Rattle.volume.specs.Directory.{entry_at, contiguous, record_length, size}
use Rattle.volume.specs.Sat.{free}
use Rattle.text.specs.Packing.{is_text, packed, unpacked}
use Rattle.records.specs.Records.{allowed}
use Rattle.files.specs.Files.{extent, record_at}
use Rattle.files.specs.Changes.{sectors_at, needed, new_pairs, appended, overwritten, updated}
use Rattle.work.specs.Refusals.{◌if◌, Rule}
use Rattle.work.specs.declared.Refusal.TheVariants.{BadLength, PastEnd, NoRoom, NoSegment, Exists, BadRequest, OtherLength}

-- What a transfer moves: data bytes, the first record or sector, how many of them, and image and buffer after it
pub record Moving : Type 0 where
  pub bytes : ℕ
  pub from : ℕ
  pub count : ℕ
  pub image : List ℕ
  pub buffer : List ℕ

-- how many records or sectors m bytes are
unfoldable pub units : List ℕ → ℕ → ℕ
units e m = if contiguous e then m / 256 else 1

unfoldable pub moving : List ℕ → ℕ → ℕ → List ℕ → List ℕ → Moving
moving e i m img buf = record { bytes = m; from = i; count = units e m; image = img; buffer = buf }

-- RULES, Status numbers: $84, 0 bytes, no multiple of 256, or over 4,096
unfoldable pub odd_length : ℕ → Bool
odd_length n = eqb n 0 or not (eqb (n % 256) 0) or ltb (256 * most_moved) n

-- RULES, Status numbers: $84 of a write or update: a contiguous file's as above; over the record limit or, in a fixed file, not exactly L
unfoldable pub wrong_length : List ℕ → List ℕ → Bool
wrong_length e bs = if contiguous e then odd_length (length bs) else not (allowed (record_length e) bs)

-- RULES, Texts: a transfer that is asked for as formatted is one of text in a variable sequential file alone
unfoldable pub as_text : Bool → List ℕ → Bool
as_text fmt e = fmt and not (contiguous e) and eqb (record_length e) 0

-- RULES, Texts: what a write or an update stores of the bytes sent, and what a read hands over of the data stored
unfoldable pub stored_as : Bool → List ℕ → List ℕ → List ℕ
stored_as fmt e bs = if as_text fmt e then packed bs else bs

unfoldable pub handed_as : Bool → List ℕ → List ℕ → List ℕ
handed_as fmt e ss = if as_text fmt e then unpacked ss else ss

-- RULES, Status numbers: $84 of a write or update: the length of the bytes sent; or, in a transfer of text, one of $80 or more
unfoldable pub unfit : Bool → List ℕ → List ℕ → Bool
unfit fmt e bs = wrong_length e bs or as_text fmt e and not (is_text bs)

-- RULES, Status numbers: $C2 of a read or update: the target is at or past the extent
unfoldable pub ended : List ℕ → List ℕ → ℕ → Bool
ended img e i = leb (extent img e) i

-- RULES, Read: as many sectors as the buffer has room for, or fewer if the end comes first; the target record's data, or its text
unfoldable pub readable : List ℕ → ℕ → ℕ → ℕ
readable e i n = if leb (i + n / 256) (size e) then n / 256 else size e - i

unfoldable pub data_at : List ℕ → List ℕ → ℕ → Bool → ℕ → List ℕ
data_at img e i fmt n = if contiguous e then sectors_at e i (readable e i n) img else handed_as fmt e (record_at img e i)

-- RULES, Orders of refusals: read, from $84 on: $84 (contiguous), $C2, $84 (sequential)
unfoldable pub read_rules : List ℕ → List ℕ → ℕ → Bool → ℕ → List Rule
read_rules img e i fmt n =
    BadLength if (contiguous e and odd_length n)
    ∷ PastEnd if ended img e i
    ∷ BadLength if (not (contiguous e) and ltb n (length (handed_as fmt e (record_at img e i))))
    ∷ []

-- RULES, Read: to the front of the buffer, the rest of which stays
unfoldable pub reading : List ℕ → List ℕ → ℕ → Bool → List ℕ → Moving
reading img e i fmt buf = moving e i (length (data_at img e i fmt (length buf))) img (over (data_at img e i fmt (length buf)) buf)

-- RULES, Status numbers: $C2 of a write; of a contiguous file, to start at or past the extent and to cross it are one rule
unfoldable pub beyond : List ℕ → List ℕ → ℕ → ℕ → Bool
beyond img e i n = if contiguous e then ended img e i or ltb (extent img e) (i + n / 256) else ltb (extent img e) i

-- RULES, Status numbers: the sectors and segments that an append of the bytes stored needs: $63, $65
unfoldable pub room_rules : List ℕ → List ℕ → List ℕ → List Rule
room_rules img e ss =
    NoRoom if (not (contiguous e) and ltb (free img) (needed img e ss))
    ∷ NoSegment if (not (contiguous e) and ltb most_segments (length (new_pairs img e ss)))
    ∷ []

-- RULES, Orders of refusals: write, from $84 on: $84, $C2, $62, $63, $65; after $84 the bytes stored count
unfoldable pub store_rules : List ℕ → List ℕ → ℕ → List ℕ → List Rule
store_rules img e i ss =
    PastEnd if beyond img e i (length ss) ∷ Exists if (not (contiguous e) and ltb i (extent img e)) ∷ room_rules img e ss

unfoldable pub write_rules : List ℕ → List ℕ → ℕ → Bool → List ℕ → List Rule
write_rules img e i fmt bs = BadLength if unfit fmt e bs ∷ store_rules img e i (stored_as fmt e bs)

-- RULES, Write: what becomes of the image, to the file in slot k
unfoldable pub written : ℕ → ℕ → List ℕ → List ℕ → List ℕ
written k i ss img = if contiguous (entry_at img k) then overwritten (entry_at img k) i ss img else appended k ss img

-- RULES, Texts: the length answered is that of the bytes sent
unfoldable pub writing : List ℕ → ℕ → ℕ → Bool → List ℕ → Moving
writing img k i fmt bs = moving (entry_at img k) i (length bs) (written k i (stored_as fmt (entry_at img k) bs) img) bs

-- RULES, Orders of refusals: update, after the opening that all transfers share: $82 (contiguous), $84, $C2, $61; after $84 the bytes
-- stored count
unfoldable pub replace_rules : List ℕ → List ℕ → ℕ → List ℕ → List Rule
replace_rules img e i ss = PastEnd if ended img e i ∷ OtherLength if not (eqb (length ss) (length (record_at img e i))) ∷ []

unfoldable pub update_rules : List ℕ → List ℕ → ℕ → Bool → List ℕ → List Rule
update_rules img e i fmt bs = BadRequest if contiguous e ∷ BadLength if unfit fmt e bs ∷ replace_rules img e i (stored_as fmt e bs)

unfoldable pub updating : List ℕ → List ℕ → ℕ → Bool → List ℕ → Moving
updating img e i fmt bs = moving e i (length bs) (updated e i (stored_as fmt e bs) img) bs

unfoldable pub transfers_open : Unit {0}
unfolding units moving odd_length wrong_length as_text stored_as handed_as unfit ended readable data_at read_rules reading beyond room_rules
    store_rules write_rules written writing replace_rules update_rules updating
transfers_open = tt
