-- Entries that are the same but for the record count: all that is read of the file behind them is the same.
use mathlib.Core.Path.{◌≡◌, refl, ap}
use mathlib.Core.Bool.{Bool, true, false}
use mathlib.Core.List.{List}
use Prim.Native.Nat.{ℕ}
use Rattle.lists.specs.Lists.{◌and◌}
use Rattle.volume.specs.Directory.{contiguous, SameButCount}
use Rattle.volume.proofs.EntryCounted.{contiguous_is}
use Rattle.records.specs.Streams.{laid_out}
use Rattle.ownership.specs.Blocks.{block, placed}
use Rattle.ownership.specs.Owners.{logical, owned}
use Rattle.files.specs.Files.{stored, stream, tail, records, extent, tail_sound, records_sound}

module _ (e d : List ℕ) (S : SameButCount e d) (img : List ℕ) where
  -- a contiguous entry is the same throughout
  alike : {A : Type 0} (f : List ℕ → A) → (contiguous e ≡ false → f d ≡ f e) → f d ≡ f e
  alike f h = go (contiguous e) refl
    where
      go : (b : Bool) → contiguous e ≡ b → f d ≡ f e
      go true q = ap f (S.contiguous_same q)
      go false q = h q

  pub block_alike : block img d ≡ block img e
  unfolding block
  block_alike = rw S.start_same

  pub logical_alike : logical img d ≡ logical img e
  unfolding logical
  logical_alike = alike (logical img) (λ q. rw (contiguous_is e d S, q, block_alike))

  pub owned_alike : owned img d ≡ owned img e
  unfolding owned
  owned_alike = alike (owned img) (λ q. rw (S.use_same, contiguous_is e d S, q, S.start_same, logical_alike))

  pub placed_alike : placed img d ≡ placed img e
  unfolding placed
  placed_alike = alike (placed img) (λ q. rw (S.use_same, contiguous_is e d S, q, S.start_same, block_alike))

  pub stored_alike : stored img d ≡ stored img e
  unfolding stored
  stored_alike = ap (laid_out img) logical_alike

  pub stream_alike : stream img d ≡ stream img e
  unfolding stream
  stream_alike = rw (block_alike, stored_alike)

  tail_alike : tail img d ≡ tail img e
  unfolding tail
  tail_alike = rw (block_alike, stored_alike)

  pub records_alike : records img d ≡ records img e
  unfolding records
  records_alike = rw (S.length_same, stream_alike)

  pub extent_alike : extent img d ≡ extent img e
  unfolding extent
  extent_alike = alike (extent img) (λ q. rw (contiguous_is e d S, q, records_alike))

  pub content_alike : (tail_sound img d and records_sound img d) ≡ (tail_sound img e and records_sound img e)
  unfolding tail_sound records_sound
  content_alike = rw (S.use_same, contiguous_is e d S, S.length_same, tail_alike, stream_alike)
