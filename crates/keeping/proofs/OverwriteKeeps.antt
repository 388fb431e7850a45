-- Sectors of a contiguous file written: they are read back, the file's others and every other file are as they were, and the volume is
-- sound.
use mathlib.Core.Path.{sym, ◌∙◌, ◌≡◌, ap}
use mathlib.Core.Logic.{inl, inr, ◌⊎◌, ⊎_elim}
use mathlib.Core.Bool.{true≢false, true, false}
use mathlib.Core.List.{List, ◌++◌}
use Prim.Native.Nat.{ℕ, ◌+◌, ◌≤◌, ◌*◌, ◌<◌}
use native.Mathlib.Decide.{dec_lt, dec_le}
use native.Mathlib.Omega.{arith}
use lib.ListN.{length}
use borrow.Author.Tests.{leb-true}
use Rattle.lists.proofs.Tests.{or_first, or_second}
use Rattle.lists.specs.Lists.{range, ◌and◌, ◌or◌}
use Rattle.lists.specs.Parts.{part, put, sectors}
use Rattle.lists.proofs.Keeps.{range_out, Keeps, Keeps-put}
use Rattle.lists.proofs.RangeParts.{among-range}
use Rattle.lists.proofs.AreBytes.{Bytes}
use Rattle.lists.proofs.Puts.{part-put_same, part-put_before, part-put_after}
use Rattle.volume.specs.Directory.{start, entry_at, unused, contiguous, size}
use Rattle.volume.specs.Volume.{sat_at, dirs}
use Rattle.volume.specs.Sat.{free}
use Rattle.lists.proofs.ByteLists.{Bytes-put}
use Rattle.ownership.specs.Blocks.{placed}
use Rattle.ownership.specs.Owners.{logical, owned}
use Rattle.files.specs.Changes.{overwritten, sectors_at}
use Rattle.files.specs.Files.{tail_sound, records_sound, count_is, records_in, sound}
use Rattle.files.proofs.OwnSectorsWritten.{Part, slot_placed, Changed-within, sound_within, free_within, sectors_within}
use Rattle.files.proofs.SoundFacts.{Facts, CountsTrue}
use Rattle.files.proofs.OneFileChanged.{Changed, entry_here}

-- a range inside a range
pub range-Part : (i n j m : ℕ) → i ≤ j → j + m ≤ i + n → Part (range j m) (range i n)
range-Part i n j m lo hi u h = elim (dec_lt u j) [
  | yes l ↦ absurd (true≢false (sym h ∙ among-range u j m (inl l)))
  | no g ↦ elim (dec_le (j + m) u) [
    | yes l ↦ absurd (true≢false (sym h ∙ among-range u j m (inr l)))
    | no k ↦ range_out u i n (omega arith) (omega arith)
  ]
]

pub Bytes-overwritten : (e : List ℕ) (i : ℕ) (bs v : List ℕ) → Bytes bs → Bytes v → Bytes (overwritten e i bs v)
unfolding overwritten
Bytes-overwritten e i bs v hb hv = Bytes-put (256 * (start e + i)) bs v hb hv

module _ (v : List ℕ) (F : Facts v) (k : ℕ) (hk : k < 8 * dirs v) (used : unused (entry_at v k) ≡ false) (runs : contiguous (entry_at v k) ≡ true)
    (i n : ℕ) (bs : List ℕ) (fits : i + n ≤ size (entry_at v k)) (long : length bs ≡ 256 * n) where
  e : List ℕ
  e = entry_at v k

  v' : List ℕ
  v' = overwritten e i bs v

  ds : List ℕ
  ds = range (start e + i) n

  -- "Every contiguous file lies inside the volume."
  pub run_inside : start (entry_at v k) + size (entry_at v k) ≤ sectors v
  unfolding placed
  run_inside = leb-true _ _ (rw (used, runs) at (slot_placed v F k hk))

  room : 256 * (start e + i) + length bs ≤ length v
  unfolding e
  room = omega (arith, run_inside, F.long)

  owned_is : (w : List ℕ) → owned w e ≡ range (start e) (size e)
  unfolding owned logical e
  owned_is w = rw (used, runs)

  -- only the n sectors from i on are written
  pub overwritten-Keeps : Keeps (range (start (entry_at v k) + i) n) v (overwritten (entry_at v k) i bs v)
  unfolding overwritten e
  overwritten-Keeps = Keeps-put (start e + i) n (256 * (start e + i)) bs v (omega arith) (omega arith) room

  mine : Part ds (owned v (entry_at v k))
  unfolding ds e
  mine u h = rw (owned_is v) (range-Part (start e) (size e) (start e + i) n (omega arith) (omega arith) u h)

  pub overwritten-Changed : Changed v (overwritten (entry_at v k) i bs v) k (entry_at v k) (range (start (entry_at v k) + i) n ++ range (sat_at v) 1)
  unfolding ds e v'
  overwritten-Changed = Changed-within v F k hk ds v' overwritten-Keeps mine

  pub overwritten-free : free (overwritten (entry_at v k) i bs v) ≡ free v
  unfolding ds e v'
  overwritten-free = free_within v F k hk ds v' overwritten-Keeps mine

  pub overwritten_entry : entry_at (overwritten (entry_at v k) i bs v) k ≡ entry_at v k
  unfolding ds e v'
  overwritten_entry = entry_here v v' k e (ds ++ range (sat_at v) 1) overwritten-Changed

  placed_is : placed v' e ≡ true
  unfolding placed v' e ds
  placed_is = rw (used, runs, sectors_within v F k hk ds v' overwritten-Keeps mine) (rw (used, runs) at (slot_placed v F k hk))

  content_is : tail_sound v' e and records_sound v' e ≡ true
  unfolding tail_sound records_sound ◌and◌ ◌or◌ e
  content_is = rw (used, runs)

  count_is_lem : count_is (records_in v') e ≡ true
  unfolding count_is e
  count_is_lem = or_first _ _ (or_second _ _ runs)

  pub overwritten-sound : CountsTrue v → sound (overwritten (entry_at v k) i bs v) ≡ true
  unfolding ds e v'
  overwritten-sound t = sound_within v F k hk ds v' overwritten-Keeps mine t (owned_is v' ∙ sym (owned_is v)) placed_is content_is count_is_lem

  -- the sectors written are read back, the file's others are as they were
  pub overwritten_read : sectors_at (entry_at v k) i n (overwritten (entry_at v k) i bs v) ≡ bs
  unfolding sectors_at overwritten e
  overwritten_read = ap (λ (m : ℕ). part (256 * (start e + i)) m (put (256 * (start e + i)) bs v)) (sym long) ∙ part-put_same (256 * (start e + i)) bs v room

  pub overwritten_others : (j m : ℕ) → (j + m ≤ i) ⊎ (i + n ≤ j) → sectors_at (entry_at v k) j m (overwritten (entry_at v k) i bs v) ≡ sectors_at (entry_at v k) j m v
  unfolding sectors_at overwritten e
  overwritten_others j m h = ⊎_elim
      (λ l. part-put_before (256 * (start e + i)) bs v room (256 * (start e + j)) (256 * m) (omega arith))
      (λ l. part-put_after (256 * (start e + i)) bs v room (256 * (start e + j)) (256 * m) (omega arith))
      h
