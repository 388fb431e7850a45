-- A slot in use of a sound volume: its entry, and a sequential file's access block, stream and records.
use mathlib.Core.Path.{◌≡◌, ap, sym, ◌∙◌}
use mathlib.Core.Bool.{true, false}
use mathlib.Core.List.{List}
use Prim.Native.Nat.{ℕ, ◌+◌, ◌*◌, ◌≤◌, ◌<◌}
use native.Mathlib.Omega.{arith}
use lib.ListN.{length}
use borrow.Author.Tests.{leb-true, eqb-true, le-ltb}
use Rattle.numbers.specs.Numbers.{record_limit}
use Rattle.lists.specs.Parts.{sectors}
use Rattle.lists.proofs.Tests.{or_cases, not_both}
use Rattle.volume.specs.Volume.{dirs}
use Rattle.volume.specs.Directory.{entry_at, unused, contiguous, start, size, record_length, record_count}
use Rattle.volume.specs.declared.locate.Layout.{Layout}
use Rattle.records.specs.Records.{whole_records, records_of}
use Rattle.records.specs.Code.Spots.{spot_of}
use Rattle.std.specs.Prelude.{None}
use Rattle.ownership.specs.Blocks.{placed}
use Rattle.files.specs.Files.{stream, records, extent, count_is, counts_are, records_in}
use Rattle.files.specs.Code.Opens.{Opens, stream_at}
use Rattle.files.specs.Code.Slots.{InUse}
use Rattle.files.proofs.SoundFacts.{Facts, facts, counts_true}
use Rattle.files.proofs.OwnSectorsWritten.{slot_placed, slot_count}
use Rattle.files.proofs.SequentialFile.{stream_whole, record_length_lem}
use Rattle.files.proofs.map.OpenBlock.{Opens-at, stream_at_lem}

-- where each sequential entry has the count that f gives, one has it
pub count_right : (img : List ℕ) → Facts img → (f : List ℕ → ℕ) → counts_are f img ≡ true → (k : ℕ) → k < 8 * dirs img → unused (entry_at img k) ≡ false
    → contiguous (entry_at img k) ≡ false → record_count (entry_at img k) ≡ f (entry_at img k)
unfolding count_is
count_right img F f t k h u c = eqb-true _ _ (or_cases _ _ (slot_count img F k h f t) (not_both _ _ u c))

module _ (img : List ℕ) (p : Layout) (k : ℕ) (u : InUse img p k) where
  pub slot_in : k < 8 * dirs img
  slot_in = omega (arith, u.slot, u.located.is_dirs)

  pub used_Facts : Facts img
  used_Facts = facts img u.is_sound

  module _ (c : contiguous (entry_at img k) ≡ false) where
    pub used_Opens : Opens img (start (entry_at img k))
    used_Opens = Opens-at img p u.located used_Facts.three used_Facts.none_twice k u.slot u.used c

    pub used_stream : stream img (entry_at img k) ≡ stream_at img (start (entry_at img k))
    used_stream = stream_at_lem img (entry_at img k) u.used c

    pub used_whole : whole_records (record_length (entry_at img k)) (stream_at img (start (entry_at img k))) ≡ true
    used_whole = ap (whole_records (record_length (entry_at img k))) (sym used_stream) ∙ stream_whole img used_Facts k slot_in u.used c

    pub used_small : record_length (entry_at img k) ≤ record_limit
    used_small = record_length_lem img used_Facts k slot_in u.used c

    -- how far it goes stands in its entry
    pub used_count : record_count (entry_at img k) ≡ length (records img (entry_at img k))
    unfolding records_in
    used_count = count_right img used_Facts (records_in img) (counts_true img u.is_sound) k slot_in u.used c

    -- no record stands at or past it
    pub past_spot : (i : ℕ) → record_count (entry_at img k) ≤ i → None ≡ spot_of (record_length (entry_at img k)) (stream img (entry_at img k)) i
    unfolding spot_of records
    past_spot i h = let n = used_count in rw (le-ltb i (length (records_of (record_length (entry_at img k)) (stream img (entry_at img k)))) (omega arith))

    pub extent_count : extent img (entry_at img k) ≡ record_count (entry_at img k)
    unfolding extent
    extent_count = rw c (sym used_count)

  pub used_run : contiguous (entry_at img k) ≡ true → 256 * (start (entry_at img k) + size (entry_at img k)) ≤ length img
  unfolding placed
  used_run c =
      let h : start (entry_at img k) + size (entry_at img k) ≤ sectors img = leb-true _ _ (rw (u.used, c) at (slot_placed img used_Facts k slot_in)) in
      omega (arith, used_Facts.long)

  pub extent_run : contiguous (entry_at img k) ≡ true → extent img (entry_at img k) ≡ size (entry_at img k)
  unfolding extent
  extent_run c = rw c
