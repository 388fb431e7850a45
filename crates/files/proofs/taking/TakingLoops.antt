-- Turns of the loops over the sectors that a file takes.
use Rattle.std.specs.Prelude.{if◌then◌else◌, Option, Some, None}
use Rattle.std.specs.Option.{option_eq}
use Rattle.std.specs.List.{slice_get}
use Rattle.std.proofs.lemmas.Option.{slice_get-get_or, get_or_from_slice_get}
use mathlib.Core.Path.{◌≡◌, refl, sym, ◌∙◌}
use mathlib.Core.Bool.{Bool, true, false, not, true≢false}
use mathlib.Core.List.{List, [], ◌∷◌}
use Prim.Native.Nat.{ℕ, ◌+◌, ◌*◌, ◌≤◌, ◌<◌, ◌-◌, zero, suc}
use native.Mathlib.Numerals.{add-one}
use native.Mathlib.Omega.{arith}
use lib.ListN.{length, get_or, drop, drop_of_length-le, take}
use lib.Seq.{drop-cons}
use lib.Dec.{eqb}
use Rattle.lists.specs.Parts.{put, put_sector, blanks, filled}
use Rattle.volume.specs.Sat.{with_bit, with_bits}
use Rattle.records.specs.Streams.{laid}
use Rattle.ownership.specs.Blocks.{seg_start, seg_length, extended_by}
use Rattle.ownership.proofs.Segments.{length-extended_by}
use Rattle.files.specs.Code.Growing.{next_after}
use Rattle.files.proofs.taking.ExtendedBy.{next_last, extended_by_more, extended_by_none, length_by_next, next_extended}

module _ (ss : List ℕ) (k : ℕ) where
  -- one sector marked, the others still to be
  pub marked_turn : (v s : ℕ) (b x : List ℕ) → k < length ss → s ≡ get_or ss k 0 → x ≡ with_bit v b s → with_bits v b (drop k ss) ≡ with_bits v x (drop (k + 1) ss)
  unfolding with_bits
  marked_turn v s b x h es ex = rw (ex, es, add-one k, drop-cons ss k 0 h)

  pub marked_done : (v : ℕ) (b : List ℕ) → length ss ≤ k → with_bits v b (drop k ss) ≡ b
  unfolding with_bits
  marked_done v b h = rw (drop_of_length-le ss h)

  -- one sector zeroed
  pub zeroed_turn : (s : ℕ) (b x : List ℕ) → k < length ss → s ≡ get_or ss k 0 → x ≡ put (256 * s) (blanks (256 * 1)) b → laid (drop k ss) [] b ≡ laid (drop (k + 1) ss) [] x
  unfolding laid put_sector filled
  zeroed_turn s b x h es ex = rw (ex, es, add-one k, drop-cons ss k 0 h)

  pub zeroed_done : (b : List ℕ) → length ss ≤ k → laid (drop k ss) [] b ≡ b
  unfolding laid
  zeroed_done b h = rw (drop_of_length-le ss h)

-- the sector after the last segment, by the last pair
pub next_none : (ps : List (List ℕ)) → None ≡ slice_get ps (length ps - 1) → None ≡ next_after ps
unfolding next_after
next_none [] h = refl
next_none (p ∷ ps) h =
    let q = slice_get-get_or (p ∷ ps) (length (p ∷ ps) - 1) p (omega arith) in
    absurd (let z : ◌≡◌ {A = ℕ} 0 1 = cc in omega arith)

pub next_some : (ps : List (List ℕ)) (x : List ℕ) (a b : ℕ) → Some x ≡ slice_get ps (length ps - 1) → a ≡ seg_start x → b ≡ seg_length x → Some (a + b) ≡ next_after ps
next_some [] x a b h ea eb = absurd (let z : ◌≡◌ {A = ℕ} 0 1 = cc in omega arith)
next_some (p ∷ ps) x a b h ea eb =
    let g : get_or (p ∷ ps) (length (p ∷ ps) - 1) [] ≡ x = get_or_from_slice_get (p ∷ ps) (length (p ∷ ps) - 1) x [] (sym h) in
    sym (next_last (p ∷ ps) (omega arith) ∙ rw (g, ea, eb))

-- a segment more, or none, by the test whether the next sector differs
pub counted_one : (t b : Bool) (n m : ℕ) → b ≡ not t → b ≡ true → m ≡ n + 1 → m ≡ (if t then n else n + 1)
counted_one true b n m h e q = absurd (true≢false (sym e ∙ h))
counted_one false b n m h e q = q

pub counted_none : (t b : Bool) (n m : ℕ) → b ≡ not t → b ≡ false → m ≡ n → m ≡ (if t then n else n + 1)
counted_none true b n m h e q = q
counted_none false b n m h e q = absurd (true≢false (sym h ∙ e))

-- segments counted without a write: n of them, and the next sector, after k sectors more
pub record Counted (ps : List (List ℕ)) (ss : List ℕ) (k n : ℕ) (next : Option ℕ) : Type 0 where
  pub some : k ≤ length ss
  pub many : n ≡ length (extended_by ps (take k ss))
  pub after : next ≡ next_after (extended_by ps (take k ss))

module _ (ps : List (List ℕ)) (ss : List ℕ) where
  pub Counted-none : (n : ℕ) (next : Option ℕ) → n ≡ length ps → next ≡ next_after ps → Counted ps ss 0 n next
  Counted-none n next e f = record { some = omega arith; many = rw (extended_by_none ps ss) e; after = rw (extended_by_none ps ss) f }

  pub Counted-few : (k n : ℕ) (next : Option ℕ) → Counted ps ss k n next → n ≤ length ps + length ss
  Counted-few k n next c = omega (arith, c.many, (length-extended_by ps (take k ss)).1, length-take-most k ss)
    where
      length-take-most : (i : ℕ) (l : List ℕ) → length (take i l) ≤ length l
      length-take-most zero l = omega arith
      length-take-most (suc i) [] = omega arith
      length-take-most (suc i) (x ∷ l) = omega (arith, length-take-most i l)

  pub Counted-more : (k n : ℕ) (next : Option ℕ) (s m : ℕ) → Counted ps ss k n next → k < length ss → s ≡ get_or ss k 0 → m ≡ (if option_eq eqb next (Some s) then n else n + 1)
      → Counted ps ss (k + 1) m (Some (s + 1))
  Counted-more k n next s m c h es em = record {
    some = omega arith;
    many = em ∙ rw (extended_by_more ps ss k h, ← es, length_by_next (extended_by ps (take k ss)) s, c.many, c.after);
    after = rw (extended_by_more ps ss k h, ← es) (sym (next_extended (extended_by ps (take k ss)) s));
  }
