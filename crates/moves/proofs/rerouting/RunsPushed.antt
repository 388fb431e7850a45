-- The segments of an access block pushed into another one, one of their sectors replaced: what a push asks for, and what is told after it.
use Rattle.std.specs.Prelude.{if◌then◌else◌, Result, Ok, Err, is_ok}
use mathlib.Core.Path.{◌≡◌, ap, ◌∙◌}
use mathlib.Core.Bool.{Bool, true, false}
use mathlib.Core.List.{List, ◌∷◌, ◌++◌}
use Prim.Native.Nat.{ℕ, zero, suc, ◌+◌, ◌-◌, ◌≤◌, ◌<◌}
use native.Mathlib.Decide.{dec_lt}
use native.Mathlib.Omega.{arith}
use lib.ListN.{length, set, drop}
use lib.Dec.{ltb}
use lib.Seq.{set-append_left, set_out}
use borrow.Author.Tests.{lt-ltb, le-ltb}
use Rattle.numbers.specs.Numbers.{most_sectors}
use Rattle.lists.specs.Lists.{range, all, flat}
use Rattle.lists.proofs.JoinedLists.{all-set}
use Rattle.lists.proofs.MembersReplaced.{set-append_right}
use Rattle.lists.proofs.Ranges.{length-range, range_below}
use Rattle.lists.proofs.AreBytes.{Bytes}
use Rattle.ownership.specs.Blocks.{pairs, segments, segment, seg_start, seg_length, sectors_of}
use Rattle.ownership.specs.Code.Shapes.{ExtendsRun, Extended, pair_at, BlockShaped}
use Rattle.ownership.proofs.Segments.{last_pair_short}
use Rattle.ownership.proofs.BlockRuns.{Extended-none, Extended-fails, Extended-then, extended_shaped, extended_inside}
use Rattle.files.proofs.map.MapFilled.{first_of, first_none, first_more, first_all, first_rest}
use Rattle.moves.specs.Code.Shapes.{run_with, TakesRuns}

-- one element replaced, of two lists joined
set-append : (a b : List ℕ) (i q : ℕ) → set (a ++ b) i q ≡ set a i q ++ (if ltb i (length a) then b else set b (i - length a) q)
set-append a b i q = elim (dec_lt i (length a)) [
  | yes h ↦ rw (lt-ltb i (length a) h) (set-append_left a b i q h)
  | no h ↦ rw (le-ltb i (length a) (omega arith), set_out a i q (omega arith)) (set-append_right a b i q (omega arith))
]

-- a run with one sector replaced: those before it, the new one, and those after it
set_run : (s n j q : ℕ) → j < n → set (range s n) j q ≡ range s j ++ (range q 1 ++ range (s + (j + 1)) (n - (j + 1)))
unfolding range
set_run s zero j q h = absurd (omega arith)
set_run s (suc m) zero q h =
    let y : s + (0 + 1) ≡ suc s = omega arith in
    let z : suc m - (0 + 1) ≡ m = omega arith in
    rw (y, z)
set_run s (suc m) (suc j) q h =
    let y : s + (suc j + 1) ≡ suc s + (j + 1) = omega arith in
    let z : suc m - (suc j + 1) ≡ m - (j + 1) = omega arith in
    rw (y, z) (ap (λ (l : List ℕ). s ∷ l) (set_run (suc s) m j q (omega arith)))

-- a block that takes runs, and still does
module _ (g : List ℕ) (t : TakesRuns g) where
  pub takes_run : (s n : ℕ) → s + n ≤ most_sectors → ExtendsRun g s n
  takes_run s n h = record {
    shaped = t.shaped;
    short = omega (arith, last_pair_short most_sectors (pairs g) t.inside);
    number = omega arith;
  }

  pub takes_then : (ss h : List ℕ) → all (λ u. ltb u most_sectors) ss ≡ true → Extended g ss true h → TakesRuns h
  takes_then ss h l x = record {
    shaped = extended_shaped g t.shaped ss h x;
    inside = extended_inside g t.shaped ss h x most_sectors l t.inside;
  }

-- by the answer that a push gave
pub failed : {E : Type 0} {g ss h : List ℕ} {r : Result Unit E} {e : E} → r ≡ Err e → Extended g ss (is_ok r) h → Extended g ss false h
failed t x = rw t at x

pub passed : {E : Type 0} {g ss h : List ℕ} {r : Result Unit E} {u : Unit} → r ≡ Ok u → Extended g ss (is_ok r) h → Extended g ss true h
passed t x = rw t at x

-- the three runs of a segment with one sector replaced, which may fail at each
module _ (g : List ℕ) (sh : BlockShaped g) (s n j q : ℕ) (h : j < n) where
  pub fails_first : (x y : List ℕ) → Extended g (range s j) false x → Extended g (set (range s n) j q) false y
  fails_first x y a = rw (set_run s n j q h) (Extended-fails g (range s j) _ x y a)

  module _ (x : List ℕ) (a : Extended g (range s j) true x) where
    pub fails_second : (y z : List ℕ) → Extended x (range q 1) false y → Extended g (set (range s n) j q) false z
    fails_second y z b =
        rw (set_run s n j q h)
        (Extended-then g sh (range s j) x a _ false z (Extended-fails x (range q 1) (range (s + (j + 1)) (n - (j + 1))) y z b))

    pub pushed_three : (y : List ℕ) (r : Bool) (z : List ℕ) → Extended x (range q 1) true y → Extended y (range (s + (j + 1)) (n - (j + 1))) r z
        → Extended g (set (range s n) j q) r z
    pushed_three y r z b c =
        rw (set_run s n j q h)
        (Extended-then g sh (range s j) x a _ r z (Extended-then x (extended_shaped g sh (range s j) x a) (range q 1) y b _ r z c))

-- a segment, by where number i stands
module _ (at s n i q : ℕ) where
  pub with_before : i < at → run_with at s n i q ≡ range s n
  unfolding run_with
  with_before h = rw (lt-ltb i at h)

  pub with_in : at ≤ i → run_with at s n i q ≡ set (range s n) (i - at) q
  unfolding run_with
  with_in h = rw (le-ltb i at h)

  pub with_after : at ≤ i → n ≤ i - at → run_with at s n i q ≡ range s n
  with_after h l = with_in h ∙ set_out (range s n) (i - at) q (omega (arith, length-range s n))

  pub with_below : s + n ≤ most_sectors → q < most_sectors → all (λ u. ltb u most_sectors) (run_with at s n i q) ≡ true
  with_below h l = elim (dec_lt i at) [
    | yes b ↦ rw (with_before b) (range_below most_sectors s n h)
    | no b ↦ rw (with_in (omega arith)) (all-set (λ u. ltb u most_sectors) (range s n) (i - at) q (range_below most_sectors s n h) (lt-ltb q most_sectors l))
  ]

-- the segments so far, and one more
module _ (f : List ℕ) (i q : ℕ) (g : List ℕ) (sh : BlockShaped g) where
  pub pushed_none : Bytes g → Extended g (set (first_of f 0) i q) true g
  pushed_none b = rw (first_none f) (Extended-none g sh b)

  module _ (k at s n : ℕ) (hk : k < segments f) (ea : at ≡ length (first_of f k)) (es : s ≡ seg_start (pair_at f k)) (en : n ≡ seg_length (pair_at f k)) where
    replaced_more : set (first_of f (k + 1)) i q ≡ set (first_of f k) i q ++ run_with at s n i q
    unfolding run_with
    replaced_more = rw (first_more f k hk, ea, es, en) (set-append (first_of f k) (range (seg_start (pair_at f k)) (seg_length (pair_at f k))) i q)

    module _ (x : List ℕ) (so_far : Extended g (set (first_of f k) i q) true x) where
      pub pushed_more : (r : Bool) (y : List ℕ) → Extended x (run_with at s n i q) r y → Extended g (set (first_of f (k + 1)) i q) r y
      pushed_more r y e = rw replaced_more (Extended-then g sh (set (first_of f k) i q) x so_far (run_with at s n i q) r y e)

      pub pushed_fails : (y z : List ℕ) → Extended x (run_with at s n i q) false y → Extended g (set (sectors_of f) i q) false z
      pushed_fails y z e =
          rw (first_rest f (k + 1), set-append (first_of f (k + 1)) (flat segment (drop (k + 1) (pairs f))) i q)
          (Extended-fails g (set (first_of f (k + 1)) i q) _ y z (pushed_more false y e))

  pub pushed_all : (k : ℕ) (x : List ℕ) → k ≡ segments f → Extended g (set (first_of f k) i q) true x → Extended g (set (sectors_of f) i q) true x
  pushed_all k x e h = rw (e, first_all f) at h
