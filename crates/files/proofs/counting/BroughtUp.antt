-- A volume from before there were record counts, brought up: its entries are the same but for the counts, which are right; so it is sound,
-- and every file on it is as it was.
use mathlib.Core.Path.{◌≡◌, refl, ap, sym, ◌∙◌}
use mathlib.Core.Bool.{Bool, true, false}
use mathlib.Core.List.{List, []}
use Prim.Native.Nat.{ℕ, ◌+◌, ◌*◌, ◌≤◌, ◌<◌}
use native.Mathlib.Omega.{arith}
use lib.ListN.{length}
use borrow.Author.Tests.{eq-eqb}
use Rattle.lists.specs.Lists.{◌or◌}
use Rattle.lists.proofs.Alike.{all_alike}
use Rattle.lists.proofs.AreBytes.{Bytes}
use Rattle.lists.proofs.ByteLists.{Bytes-part, Bytes-put, Bytes-flat}
use Rattle.lists.proofs.Lists.{get_or-map}
use Rattle.lists.proofs.Tests.{or_left, or_right, or_first, or_second, or_cases}
use Rattle.lists.proofs.Walks.{all_yes}
use Rattle.volume.specs.Directory.{entries, entry_at, unused, contiguous, valid, record_count, with_count, SameButCount}
use Rattle.volume.specs.Volume.{dir_at, dirs, layout_of}
use Rattle.volume.specs.Code.Located.{Located}
use Rattle.volume.proofs.EntriesMade.{made_Keeps, made_entries}
use Rattle.volume.proofs.EntryCounted.{counted_other, counted_sequential, length-counted_as, Bytes-counted_as, count_with_count, alike_with_count}
use Rattle.volume.proofs.EntryCounted.{alike_entry, valid_first, valid-with_count}
use Rattle.volume.proofs.Located.{Located-sound}
use Rattle.volume.proofs.Slots.{length-entries, entry_part}
use Rattle.files.specs.Changes.{counted_in, brought_up}
use Rattle.files.specs.Files.{records_in, count_is, counts_are, sound}
use Rattle.files.proofs.Bounds.{records_short}
use Rattle.files.proofs.map.OpenBlock.{Opens-at}
use Rattle.files.proofs.OwnersApart.{last_not}
use Rattle.files.proofs.OwnSectorsWritten.{slot_length, slot_valid}
use Rattle.files.proofs.Kept.Recounted.{Recounted, recounted_but, recounted_records, recounted_many}
use Rattle.files.proofs.SoundFacts.{Facts, CountsTrue, sound_is}

pub length-counted_in : (v e : List ℕ) → length e ≡ 32 → length (counted_in v e) ≡ 32
unfolding counted_in
length-counted_in v e h = length-counted_as (records_in v e) e h

module _ (v : List ℕ) (F : Facts v) where
  located : Located v (layout_of v)
  located = Located-sound v F.one

  pub dir_inside : 256 * (dir_at v + dirs v) ≤ length v
  dir_inside = omega (arith, F.dir_in, F.long)

  pub up_entry : (k : ℕ) → k < 8 * dirs v → entry_at (brought_up v) k ≡ counted_in v (entry_at v k)
  unfolding entry_at brought_up
  up_entry k h =
      rw (made_entries (counted_in v) v dir_inside (length-counted_in v) (last_not v F).0) (get_or-map (counted_in v) [] [] (entries v) k (omega (arith, length-entries v)))

  -- an entry that is given a count, and one that is not
  pub up_other : (e : List ℕ) → unused e or contiguous e ≡ true → counted_in v e ≡ e
  unfolding counted_in
  up_other e h = counted_other (records_in v e) e h

  pub up_sequential : (e : List ℕ) → unused e ≡ false → contiguous e ≡ false → counted_in v e ≡ with_count (records_in v e) e
  unfolding counted_in
  up_sequential e u c = counted_sequential (records_in v e) e u c

  module _ (k : ℕ) (h : k < 8 * dirs v) where
    abbrev e : List ℕ
    e = entry_at v k

    valid_at : unused e ≡ false → valid e ≡ true
    valid_at u = or_cases _ _ (slot_valid v F k h) u

    same_at : (b : Bool) → unused e or contiguous e ≡ b → SameButCount e (counted_in v e)
    same_at true q = alike_entry e (counted_in v e) (up_other e q)
    same_at false q =
        let u : unused e ≡ false = or_left _ _ q in
        rw (up_sequential e u (or_right _ _ q)) (alike_with_count (records_in v e) e (slot_length v F k h) (valid_first e (valid_at u)) (or_right _ _ q))

    good_at : (b : Bool) → unused e or contiguous e ≡ b → unused (counted_in v e) or valid (counted_in v e) ≡ true
    good_at true q = rw (up_other e q) (slot_valid v F k h)
    good_at false q =
        let u : unused e ≡ false = or_left _ _ q in
        rw (up_sequential e u (or_right _ _ q)) (or_second _ _ (valid-with_count (records_in v e) e (slot_length v F k h) (or_right _ _ q) (valid_at u)))

    -- no count needs more than four bytes
    few_at : unused e ≡ false → contiguous e ≡ false → records_in v e < 4294967296
    unfolding records_in layout_of
    few_at u c = omega (arith, records_short v e u c (Opens-at v (layout_of v) located F.three F.none_twice k h u c))

    Bytes-at : (b : Bool) → unused e or contiguous e ≡ b → Bytes e → Bytes (counted_in v e)
    unfolding counted_in
    Bytes-at true q x = rw (up_other e q) x
    Bytes-at false q x = Bytes-counted_as (records_in v e) e (few_at (or_left _ _ q) (or_right _ _ q)) x

    Bytes-slot : Bytes v → Bytes e
    Bytes-slot b = rw (entry_part v k h) (Bytes-part (256 * dir_at v + 32 * k) 32 v b)

  pub up_Recounted : Recounted v (brought_up v)
  up_Recounted = record {
    keeps = unfold brought_up in made_Keeps (counted_in v) v dir_inside (length-counted_in v);
    each = λ k h. rw (up_entry k h) (same_at k h (unused (entry_at v k) or contiguous (entry_at v k)) refl);
    each_valid = λ k h. rw (up_entry k h) (good_at k h (unused (entry_at v k) or contiguous (entry_at v k)) refl);
  }

  -- the counts are those of the streams
  as_many : (k : ℕ) → k < 8 * dirs v → unused (entry_at v k) ≡ false → contiguous (entry_at v k) ≡ false
      → records_in (brought_up v) (entry_at (brought_up v) k) ≡ records_in v (entry_at v k)
  unfolding records_in
  as_many k h u c = ap length (recounted_records v (brought_up v) F up_Recounted k h u c)

  count_at : (k : ℕ) → k < 8 * dirs v → (b : Bool) → unused (entry_at v k) or contiguous (entry_at v k) ≡ b → count_is (records_in (brought_up v)) (entry_at (brought_up v) k) ≡ true
  unfolding count_is
  count_at k h true q = or_first _ _ (rw (up_entry k h, up_other (entry_at v k) q) q)
  count_at k h false q =
      let u : unused (entry_at v k) ≡ false = or_left _ _ q in
      let c : contiguous (entry_at v k) ≡ false = or_right _ _ q in
      let n : record_count (entry_at (brought_up v) k) ≡ records_in v (entry_at v k) =
      ap (λ (x : List ℕ). record_count x) (up_entry k h ∙ up_sequential (entry_at v k) u c) ∙ count_with_count (records_in v (entry_at v k)) (entry_at v k) (slot_length v F k h) in
      or_second _ _ (eq-eqb _ _ (n ∙ sym (as_many k h u c)))

  up_counts : CountsTrue (brought_up v)
  unfolding counts_are entry_at
  up_counts =
      all_alike [] (λ x. true) (count_is (records_in (brought_up v))) (entries v) (entries (brought_up v)) (recounted_many v (brought_up v) F up_Recounted)
      (λ i l. count_at i (omega (arith, length-entries v)) (unused (entry_at v i) or contiguous (entry_at v i)) refl)
      ∙ all_yes (λ x. true) (entries v) (λ x. refl)

  pub up_sound : sound (brought_up v) ≡ true
  up_sound = sound_is (brought_up v) (recounted_but v (brought_up v) F up_Recounted) up_counts

  pub up_Bytes : Bytes v → Bytes (brought_up v)
  unfolding brought_up entry_at
  up_Bytes b =
      Bytes-put (256 * dir_at v) _ v
      (Bytes-flat (counted_in v) (entries v) [] (λ i l.
      Bytes-at i (omega (arith, length-entries v)) (unused (entry_at v i) or contiguous (entry_at v i)) refl (Bytes-slot i (omega (arith, length-entries v)) b))) b
