-- What an append adds to a file: new sectors that are free and nobody's, as many as the longer stream needs; and the access block that
-- lists them, which is as a sound volume wants it.
use mathlib.Core.Path.{◌≡◌, ◌∙◌, ap, sym}
use mathlib.Core.Bool.{true, false}
use mathlib.Core.List.{List, map, ◌++◌}
use Prim.Native.Nat.{ℕ, ◌*◌, ◌<◌, ◌+◌, ◌≤◌}
use native.Mathlib.Omega.{arith}
use lib.ListN.{length, length-append}
use lib.Dec.{ltb}
use borrow.Author.Tests.{eq-eqb, le-leb, leb-true, eqb-true}
use Rattle.numbers.specs.Numbers.{most_segments}
use Rattle.lists.specs.Parts.{in_sectors, sectors}
use Rattle.lists.specs.Lists.{all, sum, flat, among, distinct}
use Rattle.lists.proofs.Tests.{both_true, and_left, and_right, or_first, or_second}
use Rattle.lists.proofs.Lists.{among-append, all-append}
use Rattle.lists.proofs.LentParts.{length-sector}
use Rattle.volume.specs.Volume.{dirs, system}
use Rattle.volume.specs.Directory.{entries, entry_at, unused, contiguous, start, record_length}
use Rattle.volume.specs.Sat.{free}
use Rattle.records.specs.Records.{encoded}
use Rattle.records.proofs.LaidStream.{inside}
use Rattle.ownership.specs.Blocks.{total, stream_length, pairs, seg_length, segment_sound, block_sound, block_of, block, segment, sectors_of}
use Rattle.ownership.specs.Code.Shapes.{BlockShaped, fours}
use Rattle.ownership.specs.Owners.{owned, all_owned, logical}
use Rattle.ownership.proofs.AccessBlocks.{total-block_of, stream_length-block_of, pairs-block_of, length-block_of, shaped_block_of, fours-pairs}
use Rattle.ownership.proofs.Segments.{flat-extended_by, fours-extended_by, sum-extended_by, sound_extended_by}
use Rattle.files.specs.Changes.{longer, new_pairs, needed, new_sectors}
use Rattle.files.specs.Files.{stream}
use Rattle.files.proofs.SoundFacts.{Facts}
use Rattle.files.proofs.OwnersApart.{owned_member, clear_flip}
use Rattle.files.proofs.OwnSectorsWritten.{Part}
use Rattle.files.proofs.appending.NeededSectors.{sectors_mono, sectors_hold, needed_most}
use Rattle.files.proofs.Kept.FileSame.{clear}
use Rattle.files.proofs.SequentialFile.{logical_is, owned_is, fab_inside, block_sound_lem, total_is, logical-inside, logical-distinct, length-logical, length-stream}
use Rattle.files.proofs.taking.LowestFree.{lowest-inside, lowest-distinct, lowest_unowned, length-lowest}
use Rattle.files.proofs.appending.OwnersJoined.{clear_narrow, distinct_join}

pub block_sound_is : (t : ℕ) (f : List ℕ) → BlockShaped f → all (segment_sound t) (pairs f) ≡ true → sum (map (λ p. seg_length p) (pairs f)) ≡ total f
    → total f ≡ in_sectors (stream_length f) → block_sound t f ≡ true
unfolding block_sound
block_sound_is t f s p m n = both_true _ _ (both_true _ _ (both_true _ _ (both_true _ _ (le-leb _ _ s.few) s.rest) p) (eq-eqb _ _ m)) (eq-eqb _ _ n)

pub block_sound_shaped : (t : ℕ) (f : List ℕ) → length f ≡ 256 → block_sound t f ≡ true → BlockShaped f
unfolding block_sound
block_sound_shaped t f l h =
    let g = and_left _ _ (and_left _ _ (and_left _ _ h)) in
    record { whole = l; few = leb-true _ _ (and_left _ _ g); rest = and_right _ _ g }

-- the access block that an append writes
abbrev pub grown_block : List ℕ → List ℕ → List ℕ → List ℕ
grown_block v e r = block_of (new_pairs v e r) (in_sectors (length (longer v e r))) (length (longer v e r))

-- owners, one by one, are among all of them
module _ (v : List ℕ) (F : Facts v) where
  pub Part-system : Part (system v) (all_owned v)
  unfolding all_owned
  Part-system u m = among-append u (system v) (flat (owned v) (entries v)) ∙ or_first _ _ m

  pub Part-owned : (i : ℕ) → i < 8 * dirs v → Part (owned v (entry_at v i)) (all_owned v)
  unfolding all_owned
  Part-owned i h u m = among-append u (system v) (flat (owned v) (entries v)) ∙ or_second _ _ (owned_member v F i u h m)

module _ (v : List ℕ) (F : Facts v) (k : ℕ) (hk : k < 8 * dirs v) (used : unused (entry_at v k) ≡ false) (seq : contiguous (entry_at v k) ≡ false) (r : List ℕ) where
  abbrev e : List ℕ
  e = entry_at v k

  -- the new sectors
  pub new_inside : inside (sectors v) (new_sectors v (entry_at v k) r) ≡ true
  unfolding new_sectors
  new_inside = lowest-inside v (needed v e r)

  pub new_distinct : distinct (new_sectors v (entry_at v k) r) ≡ true
  unfolding new_sectors
  new_distinct = lowest-distinct v (needed v e r)

  pub new_unowned : clear (all_owned v) (new_sectors v (entry_at v k) r) ≡ true
  unfolding new_sectors
  new_unowned = lowest_unowned v (needed v e r) F

  pub new_not_system : clear (system v) (new_sectors v (entry_at v k) r) ≡ true
  new_not_system = clear_narrow (system v) (all_owned v) (new_sectors v e r) (Part-system v F) new_unowned

  pub new_not_owned : (i : ℕ) → i < 8 * dirs v → clear (owned v (entry_at v i)) (new_sectors v (entry_at v k) r) ≡ true
  new_not_owned i h = clear_narrow (owned v (entry_at v i)) (all_owned v) (new_sectors v e r) (Part-owned v F i h) new_unowned

  -- old and new
  pub grown_inside : inside (sectors v) (logical v (entry_at v k) ++ new_sectors v (entry_at v k) r) ≡ true
  grown_inside = all-append (λ s. ltb s (sectors v)) (logical v e) (new_sectors v e r) (logical-inside v F k hk used seq) new_inside

  Part-logical : Part (logical v e) (owned v e)
  unfolding among
  Part-logical u m = rw (owned_is e used seq v) (or_second _ _ m)

  pub grown_distinct : distinct (logical v (entry_at v k) ++ new_sectors v (entry_at v k) r) ≡ true
  grown_distinct =
      distinct_join (logical v e) (new_sectors v e r) (logical-distinct v F k hk used seq) new_distinct
      (clear_flip (logical v e) (new_sectors v e r) (clear_narrow (logical v e) (owned v e) (new_sectors v e r) Part-logical (new_not_owned k hk)))

  -- how many
  pub needed_few : (m : ℕ) → length r ≤ m → needed v (entry_at v k) r ≤ in_sectors (2 + m)
  needed_few m = needed_most m v e r (rw (length-stream v F k hk used seq, total_is v F k hk used seq) (omega arith))

  module _ (enough : needed v (entry_at v k) r ≤ free v) where
    pub length_new : length (new_sectors v (entry_at v k) r) ≡ needed v (entry_at v k) r
    unfolding new_sectors
    length_new = length-lowest v (needed v e r) enough

    not_shorter : total (block v e) ≤ in_sectors (length (longer v e r))
    unfolding longer
    not_shorter =
        let m : in_sectors (length (stream v e)) ≤ in_sectors (length (stream v e) + length (encoded (record_length e) r)) = sectors_mono _ _ (omega arith) in
        let a : total (block v e) ≡ in_sectors (length (stream v e)) = total_is v F k hk used seq ∙ ap in_sectors (sym (length-stream v F k hk used seq)) in
        rw (length-append (stream v e) (encoded (record_length e) r)) (omega arith)

    pub length_grown : length (logical v (entry_at v k) ++ new_sectors v (entry_at v k) r) ≡ in_sectors (length (longer v (entry_at v k) r))
    unfolding needed
    length_grown = length-append (logical v e) (new_sectors v e r) ∙ omega (arith, length_new, not_shorter, length-logical v F k hk used seq)

    pub grown_holds : length (longer v (entry_at v k) r) ≤ 256 * length (logical v (entry_at v k) ++ new_sectors v (entry_at v k) r)
    grown_holds = omega (arith, length_grown, sectors_hold (length (longer v e r)))

    -- the access block
    module _ (few : length (new_pairs v (entry_at v k) r) ≤ most_segments) where
      shaped : BlockShaped (block v e)
      unfolding block
      shaped = block_sound_shaped (sectors v) (block v e) (length-sector (start e) v (omega (arith, fab_inside v F k hk used seq, F.long))) (block_sound_lem v F k hk used seq)

      fours_new : fours (new_pairs v e r) ≡ true
      unfolding new_pairs
      fours_new = fours-extended_by (pairs (block v e)) (new_sectors v e r) (fours-pairs (block v e) shaped)

      pub length-grown_block : length (grown_block v (entry_at v k) r) ≡ 256
      length-grown_block = length-block_of (new_pairs v e r) (in_sectors (length (longer v e r))) (length (longer v e r)) fours_new few

      pub grown_pairs : pairs (grown_block v (entry_at v k) r) ≡ new_pairs v (entry_at v k) r
      grown_pairs = pairs-block_of (new_pairs v e r) (in_sectors (length (longer v e r))) (length (longer v e r)) fours_new

      pub grown_total : total (grown_block v (entry_at v k) r) ≡ in_sectors (length (longer v (entry_at v k) r))
      grown_total = total-block_of (new_pairs v e r) (in_sectors (length (longer v e r))) (length (longer v e r))

      pub grown_stream_length : stream_length (grown_block v (entry_at v k) r) ≡ length (longer v (entry_at v k) r)
      grown_stream_length = stream_length-block_of (new_pairs v e r) (in_sectors (length (longer v e r))) (length (longer v e r))

      pub grown_sectors_of : sectors_of (grown_block v (entry_at v k) r) ≡ logical v (entry_at v k) ++ new_sectors v (entry_at v k) r
      unfolding sectors_of new_pairs
      grown_sectors_of =
          ap (flat segment) grown_pairs ∙ flat-extended_by (pairs (block v e)) (new_sectors v e r)
          ∙ ap (λ (l : List ℕ). l ++ new_sectors v e r) (sym (logical_is e used seq v))

      sum_new : sum (map (λ p. seg_length p) (new_pairs v e r)) ≡ in_sectors (length (longer v e r))
      unfolding new_pairs block_sound needed
      sum_new =
          let was : sum (map (λ p. seg_length p) (pairs (block v e))) ≡ total (block v e) = eqb-true _ _ (and_right _ _ (and_left _ _ (block_sound_lem v F k hk used seq))) in
          sum-extended_by (pairs (block v e)) (new_sectors v e r) ∙ omega (arith, length_new, not_shorter)

      pub new_segments : all (segment_sound (sectors v)) (new_pairs v (entry_at v k) r) ≡ true
      unfolding new_pairs block_sound
      new_segments =
          sound_extended_by (sectors v) (pairs (block v e)) (new_sectors v e r) new_inside
          (and_right _ _ (and_left _ _ (and_left _ _ (block_sound_lem v F k hk used seq))))

      pub grown_sound : block_sound (sectors v) (grown_block v (entry_at v k) r) ≡ true
      grown_sound =
          block_sound_is (sectors v) (grown_block v e r) (shaped_block_of (new_pairs v e r) (in_sectors (length (longer v e r))) (length (longer v e r)) fours_new few)
          (rw grown_pairs new_segments) (rw grown_pairs (sum_new ∙ sym grown_total)) (grown_total ∙ ap in_sectors (sym grown_stream_length))
