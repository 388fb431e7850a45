-- What a record for a sequential file of a sound volume says of the numbers that an append computes.
use mathlib.Core.Path.{◌≡◌, ap, sym, ◌∙◌}
use mathlib.Core.Bool.{false}
use mathlib.Core.List.{List}
use Prim.Native.Nat.{ℕ, ◌+◌, ◌-◌, ◌*◌, ◌/◌, ◌≤◌, ◌<◌}
use native.Mathlib.Omega.{arith}
use lib.ListN.{length, take, drop, length-append}
use lib.Seq.{take_at}
use Rattle.numbers.specs.Numbers.{record_limit, most_new, most_sectors}
use Rattle.lists.specs.Parts.{sector, over, in_sectors, sectors}
use Rattle.lists.specs.Lists.{range, kept}
use Rattle.lists.proofs.LentParts.{length-sector}
use Rattle.volume.specs.Volume.{dirs, sat}
use Rattle.volume.specs.Directory.{entry_at, unused, contiguous, start, record_length}
use Rattle.volume.specs.Sat.{free, lowest, is_free, free_sectors}
use Rattle.volume.specs.declared.locate.Layout.{Layout}
use Rattle.volume.specs.Code.Located.{Located}
use Rattle.records.specs.Records.{encoded}
use Rattle.records.proofs.RecordStreams.{allowed_small}
use Rattle.records.proofs.RecordReplaced.{encoded_most}
use Rattle.ownership.specs.Blocks.{block, total, stream_length, pairs, extended_by, block_of}
use Rattle.ownership.specs.Code.Shapes.{BlockShaped}
use Rattle.ownership.specs.Owners.{logical}
use Rattle.ownership.proofs.AccessBlocks.{pairs-block_of, shaped_block_of, fours-pairs}
use Rattle.ownership.proofs.Segments.{fours-extended_by}
use Rattle.files.specs.Files.{stream}
use Rattle.files.specs.Changes.{longer, needed, new_sectors}
use Rattle.files.specs.Code.Growing.{Adds, Grows}
use Rattle.files.proofs.appending.NeededSectors.{sectors_mono, most_new_lem}
use Rattle.files.proofs.SoundFacts.{Facts}
use Rattle.files.proofs.SequentialFile.{fab_inside, block_sound_lem, total_is, logical-inside, logical-distinct, length-logical, length-stream}
use Rattle.files.proofs.taking.LowestFree.{below_few, length-lowest}
use Rattle.files.proofs.appending.GrownBlock.{block_sound_shaped, needed_few}
use Rattle.files.proofs.slot.SlotInUse.{slot_in, used_Facts}

module _ (v : List ℕ) (p : Layout) (k : ℕ) (r : List ℕ) (A : Adds v p k r) where
  abbrev e : List ℕ
  e = entry_at v k

  F : Facts v
  F = used_Facts v p k A.file

  hk : k < 8 * dirs v
  hk = slot_in v p k A.file

  abbrev u : unused e ≡ false
  u = A.file.used

  abbrev c : contiguous e ≡ false
  c = A.sequential

  pub adds_fab : 256 * start (entry_at v k) + 256 ≤ length v
  adds_fab = omega (arith, fab_inside v F k hk u c, F.long)

  pub adds_short : length r ≤ record_limit
  adds_short = allowed_small (record_length e) r A.fine

  pub adds_shaped : BlockShaped (sector (start (entry_at v k)) v)
  unfolding block
  adds_shaped = block_sound_shaped (sectors v) (sector (start e) v) (length-sector (start e) v adds_fab) (block_sound_lem v F k hk u c)

  -- the longer stream's length
  long_longer : length (longer v e r) ≡ length (stream v e) + length (encoded (record_length e) r)
  unfolding longer
  long_longer = length-append (stream v e) (encoded (record_length e) r)

  pub adds_longer : (a n : ℕ) → a ≡ stream_length (sector (start (entry_at v k)) v) → n ≡ length (encoded (record_length (entry_at v k)) r) → a + n ≡ length (longer v (entry_at v k) r)
  unfolding block
  adds_longer a n ea en = sym (long_longer ∙ omega (arith, ea, en, length-stream v F k hk u c))

  few : length (logical v e) ≤ sectors v
  few = below_few (sectors v) (logical v e) (logical-distinct v F k hk u c) (logical-inside v F k hk u c)

  pub adds_low : length (longer v (entry_at v k) r) < 512 * most_sectors
  unfolding in_sectors
  adds_low = omega (
    arith,
    long_longer,
    encoded_most record_limit (record_length e) r adds_short,
    length-stream v F k hk u c,
    total_is v F k hk u c,
    length-logical v F k hk u c,
    few,
    F.high,
  )

  -- the sectors needed
  not_shorter : total (block v e) ≤ in_sectors (length (longer v e r))
  not_shorter =
      let m : in_sectors (length (stream v e)) ≤ in_sectors (length (longer v e r)) = sectors_mono _ _ (omega (arith, long_longer)) in
      let a : total (block v e) ≡ in_sectors (length (stream v e)) = total_is v F k hk u c ∙ ap in_sectors (sym (length-stream v F k hk u c)) in
      omega arith

  pub adds_needed : (n w : ℕ) → n ≡ length (longer v (entry_at v k) r) → w ≡ total (sector (start (entry_at v k)) v)
      → (w ≤ (n + 255) / 256) × ((n + 255) / 256 - w ≡ needed v (entry_at v k) r)
  unfolding needed block in_sectors
  adds_needed n w en ew = (omega (arith, not_shorter), rw (en, ew))

  pub adds_most : needed v (entry_at v k) r ≤ most_new
  adds_most = rw most_new_lem (needed_few v F k hk u c r record_limit adds_short)

  -- the new sectors, as the code finds them
  pub adds_new : (n : ℕ) (ss : List ℕ) → n ≡ needed v (entry_at v k) r → ss ≡ lowest n v → ss ≡ new_sectors v (entry_at v k) r
  unfolding new_sectors
  adds_new n ss en es = rw (es, en)

-- the sectors at the front of the room in which they were stored
pub lowest_front : (v : List ℕ) (n : ℕ) (m d : List ℕ) → n ≤ free v → m ≡ over (lowest n v) d → take n m ≡ lowest n v
unfolding over
lowest_front v n m d h em = ap (take n) em ∙ take_at (lowest n v) (drop (length (lowest n v)) d) n (length-lowest v n h)

-- the table of a located volume, and the search in it
module _ (v : List ℕ) (p : Layout) (l : Located v p) (b : List ℕ) (is : b ≡ sector p.sat v) where
  pub table_free : kept (is_free b) (range 0 p.t) ≡ free_sectors v
  unfolding free_sectors sat
  table_free = rw (is, l.is_t, l.is_sat)

-- a block that was extended, with its totals written
module _ (f ss : List ℕ) (g : Grows f ss) (x : List ℕ) (ex : x ≡ block_of (extended_by (pairs f) ss) (total f) (stream_length f)) where
  pub extended_shaped : BlockShaped x
  extended_shaped = rw ex (shaped_block_of (extended_by (pairs f) ss) (total f) (stream_length f) (fours-extended_by (pairs f) ss (fours-pairs f g.shaped)) g.room)

  pub extended_totals : (y : List ℕ) (n e : ℕ) → y ≡ block_of (pairs x) n e → y ≡ block_of (extended_by (pairs f) ss) n e
  extended_totals y n e q =
      q ∙ ap (λ (ps : List (List ℕ)). block_of ps n e) (ap pairs ex
      ∙ pairs-block_of (extended_by (pairs f) ss) (total f) (stream_length f) (fours-extended_by (pairs f) ss (fours-pairs f g.shaped)))
