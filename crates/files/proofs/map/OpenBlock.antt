-- An access block that can be followed: what its map is, and that point 3 of soundness with no sector owned twice makes it so.
use mathlib.Core.Path.{◌≡◌, ap, sym, ◌∙◌}
use mathlib.Core.List.{List, [], ◌∷◌}
use mathlib.Core.Bool.{true, false}
use Prim.Native.Nat.{ℕ, ◌*◌, ◌≤◌, ◌+◌, ◌<◌, zero, suc}
use native.Mathlib.Omega.{arith}
use native.Mathlib.Nat.{not-suc-le-zero, le_of_suc-le-suc}
use lib.ListN.{length, take, drop, get_or}
use lib.Seq.{take_at}
use lib.Dec.{ltb}
use borrow.Author.Tests.{leb-true, le-leb, ltb-true}
use Rattle.numbers.specs.Numbers.{most_sectors}
use Rattle.lists.specs.Parts.{over, sector, in_sectors, sectors, zeros}
use Rattle.lists.specs.Lists.{all, distinct, flat, ◌and◌}
use Rattle.lists.proofs.LentParts.{length-sector}
use Rattle.lists.proofs.Tests.{and_left, and_right, both_true}
use Rattle.lists.proofs.Lists.{all_ext, all_at, distinct_tail}
use Rattle.volume.specs.Volume.{system}
use Rattle.volume.specs.Directory.{entries, entry_at, unused, contiguous, start, record_length}
use Rattle.volume.specs.Code.Located.{Located}
use Rattle.volume.specs.declared.locate.Layout.{Layout}
use Rattle.volume.proofs.Slots.{length-entries}
use Rattle.records.specs.Code.Mapped.{Mapped, stream_in}
use Rattle.records.specs.Records.{whole_records}
use Rattle.records.specs.Streams.{laid_out}
use Rattle.records.proofs.LaidStream.{inside}
use Rattle.records.proofs.WalkSteps.{length-stream_in}
use Rattle.ownership.specs.Blocks.{sectors_of, total, stream_length, block_sound, pairs, seg_start, seg_length, segment_sound, block, placed, sound3}
use Rattle.ownership.specs.Owners.{owned, all_owned}
use Rattle.ownership.proofs.BlockFacts.{block_within, block_facts}
use Rattle.files.specs.Code.Opens.{Opens, stream_at, stored_at}
use Rattle.files.specs.Files.{stored, stream, tail, tail_sound, records_sound}
use Rattle.files.proofs.map.MapFilled.{length_sectors}
use Rattle.files.proofs.taking.LowestFree.{below_few}
use Rattle.files.proofs.SequentialFile.{distinct_front, placed_is, owned_is, logical_is, content_is}

-- the map that was filled
filled_map : (f m d : List ℕ) (n : ℕ) → n ≡ length (sectors_of f) → m ≡ over (sectors_of f) d → take n m ≡ sectors_of f
unfolding over
filled_map f m d n en em = ap (take n) em ∙ take_at (sectors_of f) (drop (length (sectors_of f)) d) n (sym en)

-- the access block in sector s, and its map as the code has filled it
module _ (img : List ℕ) (s : ℕ) (o : Opens img s) where
  pub load_asks : (fab : List ℕ) → fab ≡ sector s img → (length fab ≡ 256) × (block_sound most_sectors fab ≡ true) × (total fab ≤ most_sectors)
  load_asks fab is = rw is (length-sector s img o.inside, o.block_sound, o.few)

  pub length-stream_at : length (stream_at img s) ≡ stream_length (sector s img)
  unfolding stream_at
  length-stream_at = length-stream_in img (sectors_of (sector s img)) o.mapped (stream_length (sector s img)) o.ends

  -- its sectors are as many as its stream fills
  pub opened_whole : length (sectors_of (sector s img)) ≡ in_sectors (stream_length (sector s img))
  opened_whole =
      let f : List ℕ = sector s img in
      length_sectors most_sectors f o.block_sound ∙ (block_facts most_sectors f o.block_sound).rounded

  module _ (n : ℕ) (m d : List ℕ) (en : n ≡ length (sectors_of (sector s img))) (em : m ≡ over (sectors_of (sector s img)) d) where
    pub loaded_few : n ≤ most_sectors
    loaded_few = omega (arith, length_sectors most_sectors (sector s img) o.block_sound, o.few)

    pub loaded_map : take n m ≡ sectors_of (sector s img)
    loaded_map = filled_map (sector s img) m d n en em

    module _ (e : ℕ) (ee : e ≡ stream_length (sector s img)) where
      pub loaded : Mapped img (take n m) × (e ≤ 256 * length (take n m))
      loaded = rw (loaded_map, ee) (o.mapped, o.ends)

-- inside a volume of t sectors is inside a larger one
pub block_larger : (t u : ℕ) (f : List ℕ) → t ≤ u → block_sound t f ≡ true → block_sound u f ≡ true
unfolding block_sound segment_sound
block_larger t u f l h =
    let h4 = and_left _ _ h in
    let h3 = and_left _ _ h4 in
    let wide : all (segment_sound u) (pairs f) ≡ true =
    all_ext (segment_sound t) (segment_sound t) (segment_sound u) (pairs f)
    (λ p a b. both_true _ _ (and_left _ _ a) (le-leb (seg_start p + seg_length p) u (omega (arith, leb-true (seg_start p + seg_length p) t (and_right _ _ a)))))
    (and_right _ _ h3) (and_right _ _ h3) in
    both_true _ _ (both_true _ _ (both_true _ _ (and_left _ _ h3) wide) (and_right _ _ h4)) (and_right _ _ h)

pub Mapped-inside : (t : ℕ) (img ss : List ℕ) → t ≤ most_sectors → length img ≡ 256 * t → inside t ss ≡ true → length ss ≤ t → Mapped img ss
Mapped-inside t img ss h e l n = record {
  inside = λ k g. omega (arith, ltb-true (get_or ss k 0) t (all_at (λ u. ltb u t) ss k 0 l g));
  few = omega arith;
}

pub opens : (t : ℕ) (img : List ℕ) (s : ℕ) → t ≤ most_sectors → length img ≡ 256 * t → s < t → block_sound t (sector s img) ≡ true → distinct (sectors_of (sector s img)) ≡ true
    → Opens img s
unfolding in_sectors
opens t img s h e l b d =
    let f : List ℕ = sector s img in
    let below : inside t (sectors_of f) ≡ true = block_within t f b in
    let few : length (sectors_of f) ≤ t = below_few t (sectors_of f) d below in
    let n : length (sectors_of f) ≡ total f = length_sectors t f b in
    record {
      inside = omega arith;
      block_sound = block_larger t most_sectors f h b;
      few = omega arith;
      mapped = Mapped-inside t img (sectors_of f) h e below few;
      ends = omega (arith, (block_facts t f b).rounded);
    }

-- of a list of lists joined without repeats, each is without repeats
distinct_at : {A : Type 0} (f : A → List ℕ) (xs : List A) (k : ℕ) (d : A) → k < length xs → distinct (flat f xs) ≡ true → distinct (f (get_or xs k d)) ≡ true
unfolding flat
distinct_at f [] k d h e = absurd (not-suc-le-zero h)
distinct_at f (x ∷ xs) zero d h e = distinct_front (f x) (flat f xs) e
distinct_at f (x ∷ xs) (suc k) d h e = distinct_at f xs k d (le_of_suc-le-suc h) (distinct_tail (f x) (flat f xs) e)

-- a used sequential entry of a volume
module _ (img : List ℕ) (p : Layout) (l : Located img p) (s3 : sound3 img ≡ true) (none-twice : distinct (all_owned img) ≡ true) (k : ℕ) (hk : k < 8 * p.dirs) where
  slot : k < length (entries img)
  slot = omega (arith, length-entries img, l.is_dirs)

  owned_once : distinct (owned img (entry_at img k)) ≡ true
  unfolding all_owned entry_at
  owned_once = distinct_at (owned img) (entries img) k [] slot (distinct_tail (system img) (flat (owned img) (entries img)) none-twice)

  placed_at : placed img (entry_at img k) ≡ true
  unfolding sound3 entry_at
  placed_at = all_at (placed img) (entries img) k [] s3 slot

  pub Opens-at : unused (entry_at img k) ≡ false → contiguous (entry_at img k) ≡ false → Opens img (start (entry_at img k))
  unfolding block distinct
  Opens-at u c =
      let e : List ℕ = entry_at img k in
      let h : ltb (start e) (sectors img) and block_sound (sectors img) (block img e) ≡ true = sym (placed_is e u c img) ∙ placed_at in
      let d : distinct (start e ∷ sectors_of (block img e)) ≡ true =
      ap distinct (ap (λ (x : List ℕ). start e ∷ x) (sym (logical_is e u c img)) ∙ sym (owned_is e u c img)) ∙ owned_once in
      opens (sectors img) img (start e) (omega (arith, l.high, l.is_t)) (omega (arith, l.long, l.is_t)) (ltb-true _ _ (and_left _ _ h)) (and_right _ _ h) (and_right _ _ d)

-- an entry's stream is that of its access block
module _ (img e : List ℕ) (u : unused e ≡ false) (c : contiguous e ≡ false) where
  pub stored_at_lem : stored img e ≡ stored_at img (start e)
  unfolding stored stored_at block
  stored_at_lem = ap (laid_out img) (logical_is e u c img)

  pub stream_at_lem : stream img e ≡ stream_at img (start e)
  unfolding stream stream_at stream_in block stored
  stream_at_lem = rw (logical_is e u c img)

  pub content_at : (tail_sound img e and records_sound img e) ≡
      (zeros (drop (stream_length (sector (start e) img)) (stored_at img (start e))) and whole_records (record_length e) (stream_at img (start e)))
  unfolding tail block
  content_at = content_is e u c img ∙ rw (stored_at_lem, stream_at_lem)
