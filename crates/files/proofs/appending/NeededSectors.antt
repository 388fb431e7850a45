-- How many sectors more one append can need.
use mathlib.Core.Path.{◌≡◌, refl}
use mathlib.Core.List.{List}
use Prim.Native.Nat.{ℕ, ◌+◌, ◌≤◌, ◌-◌, ◌*◌}
use native.Mathlib.Omega.{arith}
use lib.ListN.{length, length-append}
use Rattle.numbers.specs.Numbers.{record_limit, most_new}
use Rattle.lists.specs.Parts.{in_sectors}
use Rattle.volume.specs.Directory.{record_length}
use Rattle.records.specs.Records.{encoded}
use Rattle.records.proofs.RecordReplaced.{encoded_most}
use Rattle.ownership.specs.Blocks.{block, total}
use Rattle.files.specs.Files.{stream}
use Rattle.files.specs.Changes.{longer, needed}

pub sectors_add : (a b : ℕ) → in_sectors (a + b) ≤ in_sectors a + in_sectors b
unfolding in_sectors
sectors_add a b = omega arith

pub sectors_mono : (a b : ℕ) → a ≤ b → in_sectors a ≤ in_sectors b
unfolding in_sectors
sectors_mono a b h = omega arith

pub sectors_more : (a b : ℕ) → in_sectors (a + b) - in_sectors a ≤ in_sectors b
sectors_more a b = omega (arith, sectors_add a b)

-- the sectors hold the bytes, and fewer would not
pub sectors_hold : (a : ℕ) → a ≤ 256 * in_sectors a
unfolding in_sectors
sectors_hold a = omega arith

-- A record of at most m data bytes, whatever the limit m is, takes no more sectors than a count word and m bytes from a sector's start on. The pad byte of
-- an odd m never opens one more, since a sector ends after an even number of bytes.
pub encoded_sectors : (m l : ℕ) (r : List ℕ) → length r ≤ m → in_sectors (length (encoded l r)) ≤ in_sectors (2 + m)
unfolding in_sectors
encoded_sectors m l r h = omega (arith, encoded_most m l r h)

-- .. nor does its append to a file whose stream lies in its sectors,
pub needed_most : (m : ℕ) (img e r : List ℕ) → in_sectors (length (stream img e)) ≤ total (block img e) → length r ≤ m → needed img e r ≤ in_sectors (2 + m)
unfolding needed longer
needed_most m img e r h a =
    rw (length-append (stream img e) (encoded (record_length e) r))
    (omega (arith, sectors_more (length (stream img e)) (length (encoded (record_length e) r)), encoded_sectors m (record_length e) r a))

-- .. and at the record limit these are the most new sectors of an append
pub most_new_lem : most_new ≡ in_sectors (2 + record_limit)
unfolding in_sectors
most_new_lem = refl
