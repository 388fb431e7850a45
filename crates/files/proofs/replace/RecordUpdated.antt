-- A record of a sequential file replaced by one as long: the records are the old ones with that one replaced, nothing but the file's own
-- data sectors is written, and the volume is sound.
use mathlib.Core.Path.{◌≡◌, ap, sym, ◌∙◌}
use mathlib.Core.Bool.{true, false}
use mathlib.Core.List.{List, ◌∷◌, ◌++◌}
use Prim.Native.Nat.{ℕ, ◌+◌, ◌-◌, ◌*◌, ◌<◌}
use native.Mathlib.Omega.{arith}
use lib.ListN.{length, length-set, set}
use Rattle.lists.specs.Lists.{◌and◌, range, among}
use Rattle.lists.specs.Parts.{filled, blanks, in_sectors, zeros, sectors}
use Rattle.lists.proofs.Tests.{both_true, or_second, zeros-blanks}
use Rattle.lists.proofs.AreBytes.{Bytes}
use Rattle.lists.proofs.Keeps.{Keeps}
use Rattle.volume.specs.Volume.{sat_at, dirs, sat}
use Rattle.volume.specs.Directory.{entry_at, unused, contiguous, start, record_length}
use Rattle.volume.specs.Sat.{free}
use Rattle.lists.proofs.ByteLists.{Bytes-put}
use Rattle.records.specs.Records.{allowed, stream_of, whole_records, records_of}
use Rattle.records.specs.Code.Walk.{head_of, place_of}
use Rattle.records.proofs.RecordReplaced.{Updated, Updated-records}
use Rattle.records.proofs.LaidStream.{laid-Keeps, laid_read, take-filled, drop-filled}
use Rattle.ownership.specs.Blocks.{block, stream_length, sectors_of, placed}
use Rattle.ownership.specs.Owners.{logical, owned}
use Rattle.files.specs.Files.{stored, stream, tail, records, record_at, tail_sound, records_sound, count_is, records_in, sound}
use Rattle.files.specs.Changes.{updated}
use Rattle.files.proofs.SoundFacts.{Facts, CountsTrue}
use Rattle.files.proofs.OneFileChanged.{Changed, entry_here}
use Rattle.files.proofs.FileBytes.{Bytes-stream, Bytes-laid}
use Rattle.files.proofs.OwnSectorsWritten.{Part, slot_placed, slot_count, Changed-within, sound_within, free_within, sectors_within, sat_within}
use Rattle.files.proofs.SequentialFile.{logical_is, owned_is, placed_is, content_is, record_length_lem, total_is, logical-inside, logical-distinct, fab_apart, length-logical}
use Rattle.files.proofs.SequentialFile.{length-stream, stream_whole}

module _ (v : List ℕ) (F : Facts v) (k : ℕ) (hk : k < 8 * dirs v) (used : unused (entry_at v k) ≡ false) (seq : contiguous (entry_at v k) ≡ false) (bytes : Bytes v)
    (i : ℕ) (r : List ℕ) (hi : i < length (records v (entry_at v k))) (fine : allowed (record_length (entry_at v k)) r ≡ true)
    (long : length r ≡ length (record_at v (entry_at v k) i)) where
  abbrev e : List ℕ
  e = entry_at v k

  v' : List ℕ
  v' = updated e i r v

  ss : List ℕ
  ss = logical v e

  t : List ℕ
  t = stream_of (record_length e) (set (records v e) i r)

  -- the stream that is laid over the file's sectors
  pub Updated-stream : Updated (record_length (entry_at v k)) (stream v (entry_at v k)) i r (stream_of (record_length (entry_at v k)) (set (records v (entry_at v k)) i r))
  unfolding records record_at
  Updated-stream =
      Updated-records (record_length e) (stream v e) i r (Bytes-stream v e bytes) (record_length_lem v F k hk used seq) (stream_whole v F k hk used seq) hi long fine

  long_t : length t ≡ stream_length (block v e)
  unfolding t
  long_t = Updated-stream.long ∙ length-stream v F k hk used seq

  -- only the file's data sectors are written
  pub updated-Keeps : Keeps (logical v (entry_at v k)) v (updated (entry_at v k) i r v)
  unfolding updated
  updated-Keeps = laid-Keeps (sectors v) (logical v e) (stream_of (record_length e) (set (records v e) i r)) v F.long (logical-inside v F k hk used seq)

  mine : Part ss (owned v (entry_at v k))
  unfolding ss among
  mine u h = rw (owned_is e used seq v) (or_second _ _ h)

  pub updated-Changed : Changed v (updated (entry_at v k) i r v) k (entry_at v k) (logical v (entry_at v k) ++ range (sat_at v) 1)
  unfolding ss v'
  updated-Changed = Changed-within v F k hk ss v' updated-Keeps mine

  pub updated-sat : sat (updated (entry_at v k) i r v) ≡ sat v
  unfolding ss v'
  updated-sat = sat_within v F k hk ss v' updated-Keeps mine

  pub updated-free : free (updated (entry_at v k) i r v) ≡ free v
  unfolding ss v'
  updated-free = free_within v F k hk ss v' updated-Keeps mine

  pub updated_entry : entry_at (updated (entry_at v k) i r v) k ≡ entry_at v k
  unfolding ss v'
  updated_entry = entry_here v v' k e (ss ++ range (sat_at v) 1) updated-Changed

  -- access block and sectors stay
  pub updated-block : block (updated (entry_at v k) i r v) (entry_at v k) ≡ block v (entry_at v k)
  unfolding block
  updated-block = updated-Keeps.at (start e) (fab_apart v F k hk used seq)

  pub updated-logical : logical (updated (entry_at v k) i r v) (entry_at v k) ≡ logical v (entry_at v k)
  unfolding v'
  updated-logical = logical_is e used seq v' ∙ ap sectors_of updated-block ∙ sym (logical_is e used seq v)

  -- the bytes laid are read back
  stored_is : stored v' e ≡ filled (256 * length ss) t
  unfolding stored v' ss t
  stored_is =
      rw updated-logical
      (unfold updated in_sectors in
      laid_read (sectors v) (logical v e) (stream_of (record_length e) (set (records v e) i r)) v F.long (logical-inside v F k hk used seq) (logical-distinct v F k hk used seq)
      (omega (arith, long_t, length-logical v F k hk used seq, total_is v F k hk used seq)))

  pub stream-updated : stream (updated (entry_at v k) i r v) (entry_at v k) ≡ stream_of (record_length (entry_at v k)) (set (records v (entry_at v k)) i r)
  unfolding stream v' t
  stream-updated = rw (updated-block, stored_is, ← long_t) (take-filled (256 * length ss) t)

  tail_is : tail v' e ≡ blanks (256 * length ss - length t)
  unfolding tail v'
  tail_is = rw (updated-block, stored_is, ← long_t) (drop-filled (256 * length ss) t)

  pub records-updated : records (updated (entry_at v k) i r v) (entry_at v k) ≡ set (records v (entry_at v k)) i r
  unfolding records v' t
  records-updated = ap (records_of (record_length e)) stream-updated ∙ Updated-stream.records

  placed_now : placed v' e ≡ true
  unfolding v' ss
  placed_now =
      placed_is e used seq v'
      ∙ rw (sectors_within v F k hk ss v' updated-Keeps mine, updated-block) (sym (placed_is e used seq v) ∙ slot_placed v F k hk)

  content_now : tail_sound v' e and records_sound v' e ≡ true
  unfolding t v'
  content_now =
      content_is e used seq v'
      ∙ both_true _ _ (ap zeros tail_is ∙ zeros-blanks (256 * length ss - length t)) (ap (whole_records (record_length e)) stream-updated ∙ Updated-stream.whole)

  -- there are as many records as before
  count_now : CountsTrue v → count_is (records_in v') e ≡ true
  unfolding count_is records_in v'
  count_now t = rw (records-updated, length-set (records v e) i r) (slot_count v F k hk (records_in v) t)

  pub updated-sound : CountsTrue v → sound (updated (entry_at v k) i r v) ≡ true
  unfolding ss v'
  updated-sound t =
      sound_within v F k hk ss v' updated-Keeps mine t
      (owned_is e used seq v' ∙ ap (λ (l : List ℕ). start e ∷ l) updated-logical ∙ sym (owned_is e used seq v))
      placed_now content_now (count_now t)

  pub Bytes-updated : Bytes r → Bytes (updated (entry_at v k) i r v)
  unfolding updated
  Bytes-updated h =
      Bytes-laid (logical v e) (stream_of (record_length e) (set (records v e) i r)) v
      (rw Updated-stream.at_data (Bytes-put (place_of (record_length e) (stream v e) i + head_of (record_length e)) r (stream v e) h (Bytes-stream v e bytes)))
      bytes
