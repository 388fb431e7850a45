-- The access block of a file with one sector replaced: it lists the sectors with that one replaced, as many as there were, and is as a sound
-- volume wants it.
use mathlib.Core.Path.{◌≡◌, refl, ap, sym, ◌∙◌}
use mathlib.Core.Bool.{true, false}
use mathlib.Core.List.{List, [], map}
use Prim.Native.Nat.{ℕ, ◌*◌, ◌<◌, ◌≤◌}
use native.Mathlib.Omega.{arith}
use lib.ListN.{length, length-set}
use lib.Dec.{ltb}
use borrow.Author.Tests.{lt-ltb}
use Rattle.numbers.specs.Numbers.{most_segments}
use Rattle.lists.specs.Lists.{all, flat, sum}
use Rattle.lists.specs.Parts.{sectors, in_sectors}
use Rattle.lists.proofs.JoinedLists.{all-set}
use Rattle.volume.specs.Volume.{dirs}
use Rattle.volume.specs.Directory.{entry_at, unused, contiguous}
use Rattle.records.proofs.LaidStream.{inside}
use Rattle.ownership.specs.Blocks.{block, total, stream_length, pairs, seg_length, segment, segment_sound, sectors_of, block_of, block_sound}
use Rattle.ownership.specs.Code.Shapes.{fours}
use Rattle.ownership.specs.Owners.{logical}
use Rattle.ownership.proofs.AccessBlocks.{total-block_of, stream_length-block_of, pairs-block_of, length-block_of, shaped_block_of}
use Rattle.ownership.proofs.Segments.{flat-extended_by, fours-extended_by, sum-extended_by, sound_extended_by}
use Rattle.files.proofs.SoundFacts.{Facts}
use Rattle.files.proofs.SequentialFile.{logical-inside, length-logical, total_is}
use Rattle.files.proofs.appending.GrownBlock.{block_sound_is}
use Rattle.moves.specs.Moves.{rerouted, rerouted_pairs}

-- the access block that a move writes
abbrev pub rerouted_block : List ℕ → List ℕ → ℕ → ℕ → List ℕ
rerouted_block v e i q = block_of (rerouted_pairs v e i q) (total (block v e)) (stream_length (block v e))

module _ (v : List ℕ) (F : Facts v) (k : ℕ) (hk : k < 8 * dirs v) (used : unused (entry_at v k) ≡ false) (seq : contiguous (entry_at v k) ≡ false) (i q : ℕ)
    (hq : q < sectors v) (few : length (rerouted_pairs v (entry_at v k) i q) ≤ most_segments) where
  abbrev e : List ℕ
  e = entry_at v k

  pub rerouted-inside : inside (sectors v) (rerouted v (entry_at v k) i q) ≡ true
  unfolding rerouted
  rerouted-inside = all-set (λ s. ltb s (sectors v)) (logical v e) i q (logical-inside v F k hk used seq) (lt-ltb q (sectors v) hq)

  fours_rerouted : fours (rerouted_pairs v e i q) ≡ true
  unfolding rerouted_pairs fours all
  fours_rerouted = fours-extended_by [] (rerouted v e i q) refl

  pub length-rerouted_block : length (rerouted_block v (entry_at v k) i q) ≡ 256
  length-rerouted_block = length-block_of (rerouted_pairs v e i q) (total (block v e)) (stream_length (block v e)) fours_rerouted few

  pairs_rerouted : pairs (rerouted_block v e i q) ≡ rerouted_pairs v e i q
  pairs_rerouted = pairs-block_of (rerouted_pairs v e i q) (total (block v e)) (stream_length (block v e)) fours_rerouted

  pub sectors_of-rerouted : sectors_of (rerouted_block v (entry_at v k) i q) ≡ rerouted v (entry_at v k) i q
  unfolding sectors_of rerouted_pairs flat
  sectors_of-rerouted = ap (flat segment) pairs_rerouted ∙ flat-extended_by [] (rerouted v e i q)

  pub stream_length_rerouted : stream_length (rerouted_block v (entry_at v k) i q) ≡ stream_length (block v (entry_at v k))
  stream_length_rerouted = stream_length-block_of (rerouted_pairs v e i q) (total (block v e)) (stream_length (block v e))

  total_rerouted : total (rerouted_block v e i q) ≡ total (block v e)
  total_rerouted = total-block_of (rerouted_pairs v e i q) (total (block v e)) (stream_length (block v e))

  sum_rerouted : sum (map (λ p. seg_length p) (rerouted_pairs v e i q)) ≡ total (block v e)
  unfolding rerouted_pairs rerouted
  sum_rerouted = sum-extended_by [] (rerouted v e i q) ∙ omega (arith, length-set (logical v e) i q, length-logical v F k hk used seq)

  segments_rerouted : all (segment_sound (sectors v)) (rerouted_pairs v e i q) ≡ true
  unfolding rerouted_pairs all
  segments_rerouted = sound_extended_by (sectors v) [] (rerouted v e i q) rerouted-inside refl

  pub sound_rerouted : block_sound (sectors v) (rerouted_block v (entry_at v k) i q) ≡ true
  sound_rerouted =
      block_sound_is (sectors v) (rerouted_block v e i q) (shaped_block_of (rerouted_pairs v e i q) (total (block v e)) (stream_length (block v e)) fours_rerouted few)
      (rw pairs_rerouted segments_rerouted) (rw pairs_rerouted (sum_rerouted ∙ sym total_rerouted))
      (total_rerouted ∙ total_is v F k hk used seq ∙ ap in_sectors (sym stream_length_rerouted))
