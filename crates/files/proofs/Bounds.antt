-- What a file holds is counted in 32 bits: it lies in a volume of at most 2,048 sectors, and has no more records than bytes.
use Rattle.std.specs.Prelude.{if◌then◌else◌}
use mathlib.Core.List.{List, [], ◌∷◌}
use mathlib.Core.Path.{◌≡◌, refl, ap, ◌∙◌}
use mathlib.Core.Bool.{Bool, true, false}
use Prim.Native.Nat.{ℕ, zero, suc, ◌+◌, ◌*◌, ◌%◌, ◌≤◌, ◌/◌}
use native.Mathlib.Omega.{arith}
use native.Mathlib.Nat.{div-le_self}
use lib.ListN.{length}
use lib.Dec.{eqb}
use Rattle.numbers.specs.Numbers.{most_sectors}
use Rattle.lists.specs.Lists.{pieces}
use Rattle.lists.specs.Parts.{sector}
use Rattle.lists.proofs.Pieces.{length-pieces}
use Rattle.volume.specs.Directory.{entry_at, unused, contiguous, start, size, record_length}
use Rattle.volume.specs.declared.locate.Layout.{Layout}
use Rattle.records.specs.Records.{cut, records_of}
use Rattle.ownership.specs.Blocks.{stream_length}
use Rattle.files.specs.Files.{stream, records, extent}
use Rattle.files.specs.Code.Opens.{Opens}
use Rattle.files.specs.Code.Slots.{InUse}
use Rattle.files.proofs.SoundFacts.{Facts}
use Rattle.files.proofs.map.OpenBlock.{length-stream_at, stream_at_lem}
use Rattle.files.proofs.slot.SlotInUse.{used_Facts, used_run, used_Opens}

cut_few : (k : ℕ) (s : List ℕ) → length (cut k s) ≤ length s
unfolding cut
cut_few k [] = omega arith
cut_few (suc k) (x ∷ s) = omega (arith, cut_few k s)
cut_few zero (a ∷ []) = omega arith
cut_few zero (a ∷ b ∷ s) = omega (arith, cut_few (256 * a + b + (256 * a + b) % 2) s)

fewer_records : (l : ℕ) (s : List ℕ) → length (records_of l s) ≤ length s
unfolding records_of
fewer_records l s = go (eqb l 0) refl
  where
    go : (b : Bool) → b ≡ eqb l 0 → length (if b then cut 0 s else pieces (length s / l) l s) ≤ length s
    go true q = cut_few 0 s
    go false q = omega (arith, length-pieces (length s / l) l s, div-le_self (length s) l)

-- a sequential file whose access block can be followed
module _ (img e : List ℕ) (u : unused e ≡ false) (c : contiguous e ≡ false) (o : Opens img (start e)) where
  stream_length_lem : length (stream img e) ≡ stream_length (sector (start e) img)
  stream_length_lem = ap length (stream_at_lem img e u c) ∙ length-stream_at img (start e) o

  stream_short : length (stream img e) ≤ 524288
  stream_short = omega (arith, stream_length_lem, o.ends, o.mapped.few)

  pub records_short : length (records img e) ≤ 524288
  unfolding records
  records_short = omega (arith, fewer_records (record_length e) (stream img e), stream_short)

module _ (img : List ℕ) (p : Layout) (k : ℕ) (u : InUse img p k) where
  pub run_few : contiguous (entry_at img k) ≡ true → start (entry_at img k) + size (entry_at img k) ≤ most_sectors
  run_few c =
      let f : Facts img = used_Facts img p k u in
      omega (arith, used_run img p k u c, f.long, f.high)

  module _ (c : contiguous (entry_at img k) ≡ false) where
    pub stream_long : length (stream img (entry_at img k)) ≡ stream_length (sector (start (entry_at img k)) img)
    stream_long = stream_length_lem img (entry_at img k) u.used c (used_Opens img p k u c)

    pub records_few : length (records img (entry_at img k)) ≤ 524288
    records_few = records_short img (entry_at img k) u.used c (used_Opens img p k u c)

    pub extent_few : extent img (entry_at img k) ≤ 524288
    unfolding extent
    extent_few = rw c records_few
