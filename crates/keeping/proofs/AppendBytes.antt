-- An append to bytes writes bytes: every number in the new access block fits its word.
use mathlib.Core.List.{List, ◌++◌}
use mathlib.Core.Path.{◌≡◌, ap, sym, ◌∙◌}
use mathlib.Core.Bool.{true, false}
use Prim.Native.Nat.{ℕ, zero, suc, ◌%◌, ◌<◌, ◌+◌, ◌≤◌, ◌*◌}
use native.Mathlib.Omega.{arith}
use lib.ListN.{length, drop}
use lib.Dec.{eqb-suc-zero}
use Rattle.numbers.specs.Numbers.{most_segments}
use Rattle.lists.specs.Parts.{bytes2, blanks, in_sectors, sectors}
use Rattle.lists.proofs.AreBytes.{Bytes}
use Rattle.lists.proofs.Tests.{and_left, and_right}
use Rattle.volume.specs.Volume.{sat_at, dir_at, dirs, sat, layout_of}
use Rattle.volume.specs.Directory.{entry_at, unused, contiguous, start, record_length, record_count, with_count, put_entry}
use Rattle.volume.specs.Sat.{with_bits, free, put_sat}
use Rattle.lists.proofs.ByteLists.{Bytes-append, Bytes-blanks, Bytes-bytes2, Bytes-drop, Bytes-part, Bytes-put, Bytes-sector, Bytes-put_sector}
use Rattle.volume.proofs.Bits.{length-sat_of}
use Rattle.volume.proofs.EntryCounted.{Bytes-with_count}
use Rattle.volume.proofs.Located.{Located-sound}
use Rattle.volume.proofs.Slots.{entry_part}
use Rattle.volume.proofs.BitsSet.{Bytes-with_bits}
use Rattle.volume.proofs.SatChanged.{Bytes-sat_of}
use Rattle.records.specs.Records.{allowed, encoded}
use Rattle.records.proofs.RecordStreams.{allowed_small}
use Rattle.ownership.specs.Blocks.{block, segments, pairs, block_sound}
use Rattle.ownership.specs.Owners.{logical, all_owned}
use Rattle.ownership.proofs.AccessBlocks.{joined}
use Rattle.ownership.proofs.BlockBytes.{Bytes-pieces, Bytes-extended_by, Bytes-block_of}
use Rattle.files.specs.Files.{stream, records_in}
use Rattle.files.specs.Changes.{longer, needed, new_sectors, new_pairs, lengthened, one_more, appended}
use Rattle.files.proofs.Bounds.{records_short}
use Rattle.files.proofs.map.OpenBlock.{Opens-at}
use Rattle.files.proofs.slot.SlotInUse.{count_right}
use Rattle.files.proofs.SoundFacts.{Facts, CountsTrue}
use Rattle.files.proofs.FileBytes.{Bytes-stream, Bytes-laid}
use Rattle.files.proofs.SequentialFile.{block_sound_lem}
use Rattle.files.proofs.taking.LowestFree.{below_few}
use Rattle.files.proofs.appending.OwnersJoined.{inside_table}
use Rattle.files.proofs.appending.GrownBlock.{grown_block, new_inside, grown_inside, grown_distinct, length_grown, grown_holds}

-- a record in the stream
pub Bytes-encoded : (l : ℕ) (r : List ℕ) → allowed l r ≡ true → Bytes r → Bytes (encoded l r)
unfolding encoded
Bytes-encoded zero r a h =
    Bytes-append (bytes2 (length r)) (r ++ blanks (length r % 2)) (Bytes-bytes2 (length r) (omega (arith, allowed_small 0 r a)))
    (Bytes-append r (blanks (length r % 2)) h (Bytes-blanks (length r % 2)))
Bytes-encoded (suc l) r a h = rw (eqb-suc-zero l) h

module _ (v : List ℕ) (F : Facts v) (k : ℕ) (hk : k < 8 * dirs v) (used : unused (entry_at v k) ≡ false) (seq : contiguous (entry_at v k) ≡ false)
    (r : List ℕ) (fine : allowed (record_length (entry_at v k)) r ≡ true) (enough : needed v (entry_at v k) r ≤ free v)
    (few : length (new_pairs v (entry_at v k) r) ≤ most_segments) where
  abbrev e : List ℕ
  e = entry_at v k

  -- "T sectors, 16 to 2,048": so many at most hold a stream
  pub grown_few : in_sectors (length (longer v (entry_at v k) r)) ≤ sectors v
  grown_few =
      rw (sym (length_grown v F k hk used seq r enough))
      (below_few (sectors v) (logical v e ++ new_sectors v e r) (grown_distinct v F k hk used seq r) (grown_inside v F k hk used seq r))

  pub grown_short : length (longer v (entry_at v k) r) ≤ 256 * sectors v
  grown_short = omega (arith, grown_few, grown_holds v F k hk used seq r enough, length_grown v F k hk used seq r enough)

  module _ (bytes : Bytes v) (bytes-r : Bytes r) where
    Bytes-longer : Bytes (longer v e r)
    unfolding longer
    Bytes-longer = Bytes-append (stream v e) (encoded (record_length e) r) (Bytes-stream v e bytes) (Bytes-encoded (record_length e) r fine bytes-r)

    Bytes-pairs : Bytes (joined (new_pairs v e r))
    unfolding new_pairs pairs block block_sound
    Bytes-pairs =
        Bytes-extended_by (sectors v) F.high (pairs (block v e)) (new_sectors v e r) (new_inside v F k hk used seq r)
        (and_right _ _ (and_left _ _ (and_left _ _ (block_sound_lem v F k hk used seq))))
        (Bytes-pieces (segments (block v e)) (drop 8 (block v e)) (Bytes-drop 8 (block v e) (Bytes-sector (start e) v bytes)))

    Bytes-grown : Bytes (grown_block v e r)
    Bytes-grown =
        Bytes-block_of (new_pairs v e r) (in_sectors (length (longer v e r))) (length (longer v e r))
        (omega arith) (omega (arith, grown_few, F.high)) (omega (arith, grown_short, F.high)) Bytes-pairs

    Bytes-sat : Bytes (with_bits 1 (sat v) (new_sectors v e r))
    Bytes-sat =
        Bytes-with_bits 1 (sat v) (new_sectors v e r) (omega arith) (rw F.sat_right (Bytes-sat_of (sectors v) (all_owned v)))
        (ap length F.sat_right ∙ length-sat_of (sectors v) (all_owned v)) (inside_table (sectors v) (new_sectors v e r) F.high (new_inside v F k hk used seq r))

    Bytes-lengthened : Bytes (lengthened (entry_at v k) r v)
    unfolding lengthened put_sat
    Bytes-lengthened =
        Bytes-put_sector (start e) (grown_block v e r) _ Bytes-grown
        (Bytes-put_sector (sat_at v) (with_bits 1 (sat v) (new_sectors v e r)) _ Bytes-sat
        (Bytes-laid (logical v e ++ new_sectors v e r) (longer v e r) v Bytes-longer bytes))

    Bytes-entry : Bytes e
    Bytes-entry = rw (entry_part v k hk) (Bytes-part (256 * dir_at v + 32 * k) 32 v bytes)

    count_few : CountsTrue v → record_count e + 1 < 4294967296
    unfolding records_in layout_of
    count_few t =
        omega (
          arith,
          count_right v F (records_in v) t k hk used seq,
          records_short v e used seq (Opens-at v (layout_of v) (Located-sound v F.one) F.three F.none_twice k hk used seq),
        )

    pub Bytes-appended : CountsTrue v → Bytes (appended k r v)
    unfolding appended put_entry one_more
    Bytes-appended t =
        Bytes-put (256 * dir_at v + 32 * k) (with_count (record_count e + 1) e) _ (Bytes-with_count (record_count e + 1) e (count_few t) Bytes-entry) Bytes-lengthened
