-- The map of a file's logical sectors, filled from the access block's segments one after the other.
use mathlib.Core.Path.{◌≡◌, ap, ◌∙◌, refl, sym}
use mathlib.Core.List.{List, [], ◌∷◌, ◌++◌, append-nil}
use mathlib.Core.Bool.{true}
use Prim.Native.Nat.{ℕ, ◌<◌, ◌+◌, ◌≤◌}
use native.Mathlib.Numerals.{add-one}
use native.Mathlib.Omega.{arith}
use native.Mathlib.Nat.{zero-add}
use lib.ListN.{length, set, drop, take, length-append, take-append-drop}
use lib.Seq.{take-suc, take_all}
use borrow.Author.Tests.{leb-true, eqb-true}
use Rattle.lists.specs.Parts.{put, over}
use Rattle.lists.specs.Lists.{range, flat}
use Rattle.lists.proofs.LentParts.{put_next}
use Rattle.lists.proofs.Tests.{and_left, and_right}
use Rattle.lists.proofs.Lists.{all_at, flat-append}
use Rattle.lists.proofs.Puts.{put_one}
use Rattle.lists.proofs.Ranges.{length-range, range_snoc}
use Rattle.ownership.specs.Blocks.{segment, seg_start, seg_length, segments, pairs, sectors_of, total, segment_sound, block_sound}
use Rattle.ownership.specs.Code.Shapes.{pair_at}
use Rattle.ownership.proofs.BlockTests.{pairs-length}
use Rattle.ownership.proofs.Segments.{length_segments}
use Rattle.ownership.proofs.BlockFacts.{block_facts}

-- a run, one sector more
pub run_filled : (at s i : ℕ) (d m : List ℕ) → at + i < length d → m ≡ put at (range s i) d → length m ≡ length d → set m (at + i) (s + i) ≡ put at (range s (i + 1)) d
run_filled at s i d m h e n =
    let r : length (range s i) ≡ i = length-range s i in
    let f : at + (length (range s i) + 1) ≤ length d = omega arith in
    put_one (at + i) (s + i) m (omega arith)
    ∙ rw (e, range_snoc s i) (ap (λ (k : ℕ). put (at + k) ((s + i) ∷ []) (put at (range s i) d)) (sym r) ∙ put_next at (range s i) ((s + i) ∷ []) d f)

-- the sectors of the first k segments
unfoldable pub first_of : List ℕ → ℕ → List ℕ
first_of f k = flat segment (take k (pairs f))

pub first_none : (f : List ℕ) → first_of f 0 ≡ []
unfolding first_of flat
first_none f = refl

pub first_more : (f : List ℕ) (k : ℕ) → k < segments f → first_of f (k + 1) ≡ first_of f k ++ range (seg_start (pair_at f k)) (seg_length (pair_at f k))
unfolding first_of segment flat
first_more f k h =
    let l : k < length (pairs f) = omega (arith, pairs-length f) in
    rw (add-one k, take-suc (pairs f) k [] l, flat-append segment (take k (pairs f)) (pair_at f k ∷ []))
    (ap (λ (x : List ℕ). flat segment (take k (pairs f)) ++ x) (append-nil (segment (pair_at f k))))

pub length_more : (f : List ℕ) (k : ℕ) → k < segments f → length (first_of f (k + 1)) ≡ length (first_of f k) + seg_length (pair_at f k)
length_more f k h = ap length (first_more f k h) ∙ simp (length-append, length-range)

pub first_all : (f : List ℕ) → first_of f (segments f) ≡ sectors_of f
unfolding first_of sectors_of
first_all f = let l : length (pairs f) ≤ segments f = omega (arith, pairs-length f) in rw (take_all (segments f) (pairs f) l)

-- and then those of the others
pub first_rest : (f : List ℕ) (k : ℕ) → sectors_of f ≡ first_of f k ++ flat segment (drop k (pairs f))
unfolding first_of sectors_of
first_rest f k = ap (flat segment) (sym (take-append-drop k (pairs f))) ∙ flat-append segment (take k (pairs f)) (drop k (pairs f))

first_short : (f : List ℕ) (k : ℕ) → length (first_of f k) ≤ length (sectors_of f)
first_short f k = omega (arith, simp length-append at (ap length (first_rest f k)))

-- what a sound block says of its segments, and of how many sectors they are
module _ (t : ℕ) (f : List ℕ) (h : block_sound t f ≡ true) where
  pub length_sectors : length (sectors_of f) ≡ total f
  unfolding block_sound sectors_of
  length_sectors = length_segments (pairs f) ∙ eqb-true _ _ (and_right _ _ (and_left _ _ h))

  pub segment_ends : (k : ℕ) → k < segments f → seg_start (pair_at f k) + seg_length (pair_at f k) ≤ t
  unfolding segment_sound
  segment_ends k l =
      let g = all_at (segment_sound t) (pairs f) k [] (block_facts t f h).inside (omega (arith, pairs-length f)) in
      leb-true _ _ (and_right _ _ g)

  -- segment k fits a map of m places, after the segments before it
  pub segment_room : (m k : ℕ) → total f ≤ m → k < segments f → length (first_of f k) + seg_length (pair_at f k) ≤ m
  segment_room m k r l = omega (arith, length_more f k l, first_short f (k + 1), length_sectors)

-- a turn of the loop, and its end
pub fill_more : (f d m x : List ℕ) (k at s n : ℕ) → k < segments f → at ≡ length (first_of f k) → s ≡ seg_start (pair_at f k) → n ≡ seg_length (pair_at f k)
    → at + n ≤ length d → m ≡ put 0 (first_of f k) d → x ≡ put at (range s n) m → x ≡ put 0 (first_of f (k + 1)) d
fill_more f d m x k at s n h ea es en r em ex =
    let g : 0 + (length (first_of f k) + length (range s n)) ≤ length d = omega (arith, length-range s n) in
    let z : at ≡ 0 + length (first_of f k) = omega arith in
    ex ∙ rw (em, z, put_next 0 (first_of f k) (range s n) d g, first_more f k h, es, en)

pub put-over : (b l : List ℕ) → put 0 b l ≡ over b l
unfolding put over
put-over b l = rw zero-add
