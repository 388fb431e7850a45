-- Write, one law for each thing that it can come to.
use mathlib.Core.Path.{◌≡◌, refl}
use mathlib.Core.Bool.{Bool, false, true}
use mathlib.Core.List.{List}
use Prim.Native.Nat.{ℕ, ◌/◌, ◌≤◌, ◌<◌, ◌+◌, ◌*◌, ◌%◌}
use native.Mathlib.Omega.{arith}
use lib.ListN.{length}
use borrow.Author.Tests.{ltb-false, leb-false, eqb-true, not-false, lt-ltb, le-ltb}
use Rattle.numbers.specs.Numbers.{most_segments, most_moved}
use Rattle.lists.specs.Lists.{◌and◌}
use Rattle.lists.proofs.Tests.{or_right, or_left}
use Rattle.volume.specs.Directory.{entry_at, contiguous, size}
use Rattle.volume.specs.Sat.{free}
use Rattle.files.specs.Files.{extent}
use Rattle.files.specs.Changes.{needed, new_pairs, appended, overwritten}
use Rattle.work.specs.Transfers.{odd_length, units, moving, wrong_length, as_text, stored_as, unfit, ended, beyond, room_rules}
use Rattle.work.specs.Transfers.{store_rules, write_rules, written, writing}
use Rattle.work.specs.Code.Runs.{crosses}
use Rattle.work.specs.declared.Refusal.TheVariants.{BadLength, PastEnd, Exists, NoRoom, NoSegment}
use Rattle.std.specs.Prelude.{Err}
use Rattle.work.specs.Refusals.{ruled}
use Rattle.work.specs.Code.Deeds.{done, deed, done_by, moved, write_deed, store_deed, append_deed}
use Rattle.work.proofs.TextRules.{plain_unfit, plain_stored, sent_unfit, sent_stored}

-- whole sectors, and where they lie in a run
pub odd_few : (m : ℕ) → odd_length m ≡ false → (m / 256 ≤ most_moved) × (m ≤ 256 * most_moved)
unfolding odd_length
odd_few m h =
    let l : m ≤ 4096 = ltb-false 4096 m (or_right _ _ h) in
    (omega arith, l)

pub run_start : (n i k : ℕ) → crosses n i k ≡ false → i < n
unfolding crosses
run_start n i k h = leb-false n i (or_left _ _ h)

pub run_bytes : (n i m : ℕ) → odd_length m ≡ false → crosses n i (m / 256) ≡ false → 256 * i + m ≤ 256 * n
unfolding odd_length crosses
run_bytes n i m h c =
    let whole : m % 256 ≡ 0 = eqb-true _ _ (not-false _ (or_right _ _ (or_left _ _ h))) in
    let l : i + m / 256 ≤ n = ltb-false n (i + m / 256) (or_right _ _ c) in
    omega arith

module _ (img : List ℕ) (k i : ℕ) (bs : List ℕ) where
  abbrev e : List ℕ
  e = entry_at img k

  -- a transfer that is not of text is one that was not asked for as such
  pub plain_write : (fmt : Bool) → as_text fmt e ≡ false → write_deed img k i false bs ≡ write_deed img k i fmt bs
  unfolding write_deed write_rules writing
  plain_write fmt t = rw (plain_unfit fmt e t bs, plain_stored fmt e t bs, sent_unfit e bs, sent_stored e bs) refl

  -- sectors of a contiguous file
  module _ (c : contiguous e ≡ true) where
    pub run_odd : odd_length (length bs) ≡ true → deed (Err BadLength) img bs ≡ write_deed img k i false bs
    unfolding write_deed write_rules wrong_length done_by ruled
    run_odd a = rw (sent_unfit e bs, c, a)

    module _ (a : odd_length (length bs) ≡ false) where
      pub run_crosses : crosses (size e) i (length bs / 256) ≡ true → deed (Err PastEnd) img bs ≡ write_deed img k i false bs
      unfolding write_deed write_rules store_rules wrong_length beyond ended extent crosses done_by ruled
      run_crosses b = rw (sent_unfit e bs, sent_stored e bs, c, a, b)

      pub run_written : crosses (size e) i (length bs / 256) ≡ false
          → deed (done (length bs) i (length bs / 256)) (overwritten e i bs img) bs ≡ write_deed img k i false bs
      unfolding write_deed write_rules store_rules room_rules wrong_length beyond ended extent crosses writing written moving moved units done_by ruled ◌and◌
      run_written b = rw (sent_unfit e bs, sent_stored e bs, c, a, b)

  -- a record of a sequential one, of text or not, that is stored as ss
  module _ (t : Bool) where
    pub record_wrong : unfit t e bs ≡ true → deed (Err BadLength) img bs ≡ write_deed img k i t bs
    unfolding write_deed write_rules done_by ruled
    record_wrong a = rw a

    pub record_fine : (ss : List ℕ) → unfit t e bs ≡ false → stored_as t e bs ≡ ss → store_deed img k i ss bs ≡ write_deed img k i t bs
    unfolding write_deed store_deed write_rules writing done_by ruled
    record_fine ss a s = rw (a, s)

  -- as ss
  module _ (ss : List ℕ) (c : contiguous e ≡ false) where
    pub record_past : extent img e < i → deed (Err PastEnd) img bs ≡ store_deed img k i ss bs
    unfolding store_deed store_rules beyond done_by ruled
    record_past l = rw (c, lt-ltb (extent img e) i l)

    pub record_there : i < extent img e → deed (Err Exists) img bs ≡ store_deed img k i ss bs
    unfolding store_deed store_rules beyond done_by ruled ◌and◌
    record_there l = rw (c, le-ltb (extent img e) i (omega arith), lt-ltb i (extent img e) l)

    pub record_next : i ≤ extent img e → extent img e ≤ i → append_deed img k i ss bs ≡ store_deed img k i ss bs
    unfolding store_deed append_deed store_rules beyond done_by ruled ◌and◌
    record_next l g = rw (c, le-ltb (extent img e) i l, le-ltb i (extent img e) g)

    -- the next one
    pub next_full : free img < needed img e ss → deed (Err NoRoom) img bs ≡ append_deed img k i ss bs
    unfolding append_deed room_rules done_by ruled ◌and◌
    next_full l = rw (c, lt-ltb (free img) (needed img e ss) l)

    module _ (f : needed img e ss ≤ free img) where
      pub next_split : most_segments < length (new_pairs img e ss) → deed (Err NoSegment) img bs ≡ append_deed img k i ss bs
      unfolding append_deed room_rules done_by ruled ◌and◌
      next_split l = rw (c, le-ltb (free img) (needed img e ss) f, lt-ltb most_segments (length (new_pairs img e ss)) l)

      pub next_written : length (new_pairs img e ss) ≤ most_segments → deed (done (length bs) i 1) (appended k ss img) bs ≡ append_deed img k i ss bs
      unfolding append_deed room_rules written moving moved units done_by ruled ◌and◌
      next_written l = rw (c, le-ltb (free img) (needed img e ss) f, le-ltb most_segments (length (new_pairs img e ss)) l)
