-- What a sound volume says of a sequential file: its access block, its sectors, its stream.
use mathlib.Core.Path.{◌≡◌, refl, ap, ◌∙◌, sym}
use mathlib.Core.Bool.{true, not, true≢false, false}
use mathlib.Core.List.{List, [], ◌∷◌, ◌++◌}
use Prim.Native.Nat.{ℕ, ◌*◌, ◌<◌, ◌≤◌}
use native.Mathlib.Omega.{arith}
use lib.ListN.{length}
use lib.Dec.{ltb}
use lib.Seq.{length-take-le}
use borrow.Author.Tests.{not-true, ltb-true, leb-true, eqb-true}
use Rattle.numbers.specs.Numbers.{record_limit}
use Rattle.lists.specs.Lists.{distinct, range, among, ◌and◌, ◌or◌}
use Rattle.lists.specs.Parts.{zeros, sectors, in_sectors}
use Rattle.lists.proofs.Tests.{and_left, and_right, both_true, or_cases}
use Rattle.lists.proofs.Keeps.{among-append_left, Keeps-refl}
use Rattle.lists.proofs.Lists.{distinct_tail}
use Rattle.volume.specs.Volume.{sat_at, dirs}
use Rattle.volume.specs.Directory.{entry_at, unused, contiguous, start, record_length, valid}
use Rattle.records.specs.Records.{whole_records}
use Rattle.records.proofs.LaidStream.{inside}
use Rattle.records.proofs.LaidLength.{length-laid_out}
use Rattle.ownership.specs.Blocks.{block, sectors_of, block_sound, placed, total, stream_length, pairs}
use Rattle.ownership.specs.Owners.{owned, logical}
use Rattle.ownership.proofs.Segments.{length_segments}
use Rattle.ownership.proofs.BlockFacts.{block_within}
use Rattle.files.specs.Files.{stream, tail, tail_sound, records_sound, stored}
use Rattle.files.proofs.SoundFacts.{Facts}
use Rattle.files.proofs.OneFileChanged.{Changed, owned_was, ahead, behind}
use Rattle.files.proofs.OwnSectorsWritten.{Changed-within, slot_valid, slot_placed, slot_content}

pub distinct_front : (p b : List ℕ) → distinct (p ++ b) ≡ true → distinct p ≡ true
unfolding distinct
distinct_front [] b h = refl
distinct_front (x ∷ p) b h = both_true _ _ (ap not (among-append_left x p b (not-true _ (and_left _ _ h)))) (distinct_front p b (and_right _ _ h))

-- no file owns a sector twice
pub owned-distinct : (v : List ℕ) → Facts v → (k : ℕ) → k < 8 * dirs v → distinct (owned v (entry_at v k)) ≡ true
unfolding among
owned-distinct v F k hk =
    let C : Changed v v k (entry_at v k) ([] ++ range (sat_at v) 1) = Changed-within v F k hk [] v (Keeps-refl v) (λ u m. absurd (true≢false (sym m))) in
    let a : List ℕ = ahead v v k (entry_at v k) ([] ++ range (sat_at v) 1) C in
    let b : List ℕ = behind v v k (entry_at v k) ([] ++ range (sat_at v) 1) C in
    let d : distinct (a ++ (owned v (entry_at v k) ++ b)) ≡ true = ap distinct (sym (owned_was v v k (entry_at v k) ([] ++ range (sat_at v) 1) C)) ∙ F.none_twice in
    distinct_front (owned v (entry_at v k)) b (distinct_tail a (owned v (entry_at v k) ++ b) d)

-- a used sequential entry, in any image
module _ (e : List ℕ) (used : unused e ≡ false) (seq : contiguous e ≡ false) where
  pub logical_is : (v : List ℕ) → logical v e ≡ sectors_of (block v e)
  unfolding logical
  logical_is v = rw seq

  pub owned_is : (v : List ℕ) → owned v e ≡ start e ∷ logical v e
  unfolding owned
  owned_is v = rw (used, seq)

  pub placed_is : (v : List ℕ) → placed v e ≡ (ltb (start e) (sectors v) and block_sound (sectors v) (block v e))
  unfolding placed
  placed_is v = rw (used, seq)

  pub content_is : (v : List ℕ) → (tail_sound v e and records_sound v e) ≡ (zeros (tail v e) and whole_records (record_length e) (stream v e))
  unfolding tail_sound records_sound ◌or◌
  content_is v = rw (used, seq)

module _ (v : List ℕ) (F : Facts v) (k : ℕ) (hk : k < 8 * dirs v) (used : unused (entry_at v k) ≡ false) (seq : contiguous (entry_at v k) ≡ false) where
  abbrev e : List ℕ
  e = entry_at v k

  pub record_length_lem : record_length (entry_at v k) ≤ record_limit
  unfolding valid
  record_length_lem =
      let g : valid e ≡ true = or_cases _ _ (slot_valid v F k hk) used in
      leb-true _ _ (rw seq at (and_right _ _ g))

  -- its access block
  pub fab_inside : start (entry_at v k) < sectors v
  fab_inside = ltb-true _ _ (and_left _ _ (sym (placed_is e used seq v) ∙ slot_placed v F k hk))

  pub block_sound_lem : block_sound (sectors v) (block v (entry_at v k)) ≡ true
  block_sound_lem = and_right _ _ (sym (placed_is e used seq v) ∙ slot_placed v F k hk)

  pub total_is : total (block v (entry_at v k)) ≡ in_sectors (stream_length (block v (entry_at v k)))
  unfolding block_sound
  total_is = eqb-true _ _ (and_right _ _ block_sound_lem)

  -- its sectors
  pub logical-inside : inside (sectors v) (logical v (entry_at v k)) ≡ true
  logical-inside = rw (logical_is e used seq v) (block_within (sectors v) (block v e) block_sound_lem)

  both_distinct : distinct (start e ∷ logical v e) ≡ true
  both_distinct = ap distinct (sym (owned_is e used seq v)) ∙ owned-distinct v F k hk

  pub logical-distinct : distinct (logical v (entry_at v k)) ≡ true
  unfolding distinct
  logical-distinct = and_right _ _ both_distinct

  pub fab_apart : among (start (entry_at v k)) (logical v (entry_at v k)) ≡ false
  unfolding distinct
  fab_apart = not-true _ (and_left _ _ both_distinct)

  pub length-logical : length (logical v (entry_at v k)) ≡ total (block v (entry_at v k))
  unfolding sectors_of block_sound
  length-logical = rw (logical_is e used seq v) (length_segments (pairs (block v e)) ∙ eqb-true _ _ (and_right _ _ (and_left _ _ block_sound_lem)))

  -- its stream
  pub length-stored : length (stored v (entry_at v k)) ≡ 256 * length (logical v (entry_at v k))
  unfolding stored
  length-stored = length-laid_out (sectors v) v (logical v e) F.long logical-inside

  pub length-stream : length (stream v (entry_at v k)) ≡ stream_length (block v (entry_at v k))
  unfolding stream in_sectors
  length-stream = length-take-le (stream_length (block v e)) (stored v e) (omega (arith, length-stored, length-logical, total_is))

  pub tail_zero : zeros (tail v (entry_at v k)) ≡ true
  tail_zero = and_left _ _ (sym (content_is e used seq v) ∙ slot_content v F k hk)

  pub stream_whole : whole_records (record_length (entry_at v k)) (stream v (entry_at v k)) ≡ true
  stream_whole = and_right _ _ (sym (content_is e used seq v) ∙ slot_content v F k hk)
