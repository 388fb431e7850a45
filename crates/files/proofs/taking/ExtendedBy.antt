-- An access block extended by sectors, one after the other: its pairs, how many they are, and the sector that would follow.
use Rattle.std.specs.Prelude.{if◌then◌else◌, Some}
use Rattle.std.specs.Option.{option_eq}
use mathlib.Core.Path.{◌≡◌, refl, ap, ◌∙◌, sym}
use mathlib.Core.List.{List, [], ◌∷◌, ◌++◌}
use mathlib.Core.Bool.{true, Bool, false}
use Prim.Native.Nat.{ℕ, ◌+◌, ◌<◌, ◌≤◌}
use native.Mathlib.Numerals.{add-one}
use native.Mathlib.Omega.{arith}
use lib.ListN.{take, length, get_or, drop, take-append-drop, length-append}
use lib.Seq.{take-suc}
use lib.Dec.{eqb, ltb}
use borrow.Author.Tests.{eqb-true, ltb-true}
use Rattle.numbers.specs.Numbers.{most_sectors}
use Rattle.lists.proofs.Lists.{all_at}
use Rattle.lists.proofs.AreBytes.{Bytes}
use Rattle.ownership.specs.Blocks.{extended, extended_by, seg_start, seg_length, total, stream_length, pairs, block_of}
use Rattle.ownership.specs.Code.Shapes.{follows, lengthened, pair, last_pair, fours, Extends}
use Rattle.ownership.proofs.Segments.{length-extended_by, seg_start-pair, seg_length-pair, extended_cases, last_pair-cons, extended_on, extended_new, fours-extended_by}
use Rattle.ownership.proofs.Segments.{sound_extended_by, last_pair_short, length-lengthened}
use Rattle.ownership.proofs.SegmentRuns.{extended_by-append}
use Rattle.ownership.proofs.AccessBlocks.{pairs-block_of, total-block_of, stream_length-block_of, shaped_block_of, fours-pairs, block_is}
use Rattle.files.specs.Code.Growing.{next_after, Grows}
use Rattle.files.proofs.taking.LowestFree.{all-take}

pub extended_by_none : (ps : List (List ℕ)) (ss : List ℕ) → extended_by ps (take 0 ss) ≡ ps
unfolding extended_by
extended_by_none ps ss = refl

pub extended_by_more : (ps : List (List ℕ)) (ss : List ℕ) (k : ℕ) → k < length ss → extended_by ps (take (k + 1) ss) ≡ extended (extended_by ps (take k ss)) (get_or ss k 0)
unfolding extended_by
extended_by_more ps ss k h = ap (extended_by ps) (ap (λ (i : ℕ). take i ss) (add-one k) ∙ take-suc ss k 0 h) ∙ extended_by-append ps (take k ss) (get_or ss k 0 ∷ [])

pub extended_by_fewer : (ps : List (List ℕ)) (ss : List ℕ) (k : ℕ) → length (extended_by ps (take k ss)) ≤ length (extended_by ps ss)
extended_by_fewer ps ss k =
    let e : extended_by ps ss ≡ extended_by (extended_by ps (take k ss)) (drop k ss) = ap (extended_by ps) (sym (take-append-drop k ss))
    ∙ extended_by-append ps (take k ss) (drop k ss) in
    rw e (length-extended_by (extended_by ps (take k ss)) (drop k ss)).0

-- a sector follows the last segment if it is the one after it
pub follows_next : (ps : List (List ℕ)) (s : ℕ) → follows ps s ≡ option_eq eqb (next_after ps) (Some s)
unfolding follows next_after
follows_next [] s = refl
follows_next (p ∷ []) s = refl
follows_next (p ∷ q ∷ ps) s = follows_next (q ∷ ps) s

next_lengthened : (ps : List (List ℕ)) (s : ℕ) → follows ps s ≡ true → next_after (lengthened ps 1) ≡ Some (s + 1)
unfolding follows lengthened next_after
next_lengthened [] s h = absurd (let z : ◌≡◌ {A = ℕ} 0 1 = cc in omega arith)
next_lengthened (p ∷ []) s h =
    let q : seg_start p + seg_length p ≡ s = eqb-true _ _ h in
    let z : seg_start (pair (seg_start p) (seg_length p + 1)) + seg_length (pair (seg_start p) (seg_length p + 1)) ≡ s + 1 =
    omega (arith, seg_start-pair (seg_start p) (seg_length p + 1), seg_length-pair (seg_start p) (seg_length p + 1)) in
    ap Some z
next_lengthened (p ∷ q ∷ []) s h = next_lengthened (q ∷ []) s h
next_lengthened (p ∷ q ∷ r ∷ ps) s h = next_lengthened (q ∷ r ∷ ps) s h

next_snoc : (ps : List (List ℕ)) (s : ℕ) → next_after (ps ++ (pair s 1 ∷ [])) ≡ Some (s + 1)
unfolding next_after
next_snoc [] s = let z : seg_start (pair s 1) + seg_length (pair s 1) ≡ s + 1 = omega (arith, seg_start-pair s 1, seg_length-pair s 1) in ap Some z
next_snoc (p ∷ []) s = next_snoc [] s
next_snoc (p ∷ q ∷ ps) s = next_snoc (q ∷ ps) s

pub next_extended : (ps : List (List ℕ)) (s : ℕ) → next_after (extended ps s) ≡ Some (s + 1)
next_extended ps s = extended_cases (λ qs. next_after qs ≡ Some (s + 1)) ps s (next_lengthened ps s) (λ h. next_snoc ps s)

pub next_last : (ps : List (List ℕ)) → 1 ≤ length ps → next_after ps ≡ Some (seg_start (last_pair ps) + seg_length (last_pair ps))
unfolding next_after
next_last [] h = absurd (omega arith)
next_last (p ∷ []) h = refl
next_last (p ∷ q ∷ ps) h = rw (last_pair-cons p (q ∷ ps) (omega arith)) (next_last (q ∷ ps) (omega arith))

-- how many segments then
pub length_by_next : (ps : List (List ℕ)) (s : ℕ) → length (extended ps s) ≡ (if option_eq eqb (next_after ps) (Some s) then length ps else length ps + 1)
length_by_next ps s = go (follows ps s) refl
  where
    go : (b : Bool) → follows ps s ≡ b → length (extended ps s) ≡ (if option_eq eqb (next_after ps) (Some s) then length ps else length ps + 1)
    go true e = rw (← follows_next ps s, e) (ap length (extended_on ps s e) ∙ length-lengthened ps 1)
    go false e = rw (← follows_next ps s, e) (ap length (extended_new ps s e) ∙ length-append ps (pair s 1 ∷ []))

-- the block on the way
module _ (f ss : List ℕ) (g : Grows f ss) where
  abbrev ahead : ℕ → List (List ℕ)
  ahead k = extended_by (pairs f) (take k ss)

  fours-ahead : (k : ℕ) → fours (ahead k) ≡ true
  fours-ahead k = fours-extended_by (pairs f) (take k ss) (fours-pairs f g.shaped)

  pub grown_none : Bytes f → f ≡ block_of (extended_by (pairs f) (take 0 ss)) (total f) (stream_length f)
  grown_none b = rw (extended_by_none (pairs f) ss) (block_is f g.shaped b)

  module _ (k : ℕ) (h : k < length ss) (x : List ℕ) (e : x ≡ block_of (extended_by (pairs f) (take k ss)) (total f) (stream_length f)) where
    pairs_now : pairs x ≡ ahead k
    pairs_now = ap pairs e ∙ pairs-block_of (ahead k) (total f) (stream_length f) (fours-ahead k)

    pub grown_Extends : Extends x (get_or ss k 0)
    grown_Extends =
        let low : get_or ss k 0 < most_sectors = ltb-true _ _ (all_at (λ s. ltb s most_sectors) ss k 0 g.below h) in
        record {
          shaped = rw e (shaped_block_of (ahead k) (total f) (stream_length f) (fours-ahead k) (omega (arith, extended_by_fewer (pairs f) ss k, g.room)));
          room = rw (pairs_now, ← extended_by_more (pairs f) ss k h) (omega (arith, extended_by_fewer (pairs f) ss (k + 1), g.room));
          short = rw pairs_now (omega (
            arith,
            last_pair_short most_sectors (ahead k)
                (sound_extended_by most_sectors (pairs f) (take k ss) (all-take (λ s. ltb s most_sectors) k ss g.below) g.inside),
          ));
          number = omega arith;
        }

    pub grown_more : (y : List ℕ) → y ≡ block_of (extended (pairs x) (get_or ss k 0)) (total x) (stream_length x)
        → y ≡ block_of (extended_by (pairs f) (take (k + 1) ss)) (total f) (stream_length f)
    grown_more y q =
        let n : total x ≡ total f = ap (λ (l : List ℕ). total l) e ∙ total-block_of (ahead k) (total f) (stream_length f) in
        let m : stream_length x ≡ stream_length f = ap (λ (l : List ℕ). stream_length l) e ∙ stream_length-block_of (ahead k) (total f) (stream_length f) in
        q ∙ rw (pairs_now, n, m, ← extended_by_more (pairs f) ss k h)
