-- An access block made from nothing: zeros, then the totals, then the sectors.
use Rattle.std.specs.Prelude.{Result, Ok, Err, is_ok, OnOk}
use mathlib.Core.Path.{◌≡◌, refl, ap, ◌∙◌}
use mathlib.Core.Bool.{true}
use mathlib.Core.List.{List, []}
use Prim.Native.Nat.{ℕ}
use native.Mathlib.Omega.{arith}
use lib.ListN.{length}
use lib.Dec.{leb}
use Rattle.numbers.specs.Numbers.{most_segments}
use Rattle.lists.specs.Lists.{all, flat}
use Rattle.lists.specs.Parts.{blanks, filled}
use Rattle.ownership.specs.Blocks.{pairs, total, stream_length, extended_by, block_of}
use Rattle.ownership.specs.Code.Shapes.{fours, BlockShaped, Extended}
use Rattle.ownership.proofs.AccessBlocks.{pairs-block_of, total-block_of, stream_length-block_of, shaped_block_of}
use Rattle.moves.specs.Code.Shapes.{TakesRuns}

four_none : fours [] ≡ true
unfolding fours all
four_none = refl

-- zeros are a block of no segments
zeros_block : blanks 256 ≡ block_of [] 0 0
unfolding blanks block_of filled flat
zeros_block = refl

pub zeros_shaped : (g : List ℕ) → g ≡ blanks 256 → BlockShaped g
zeros_shaped g h = rw (h, zeros_block) (shaped_block_of [] 0 0 four_none (omega arith))

pub zeros_with : (g x : List ℕ) (n e : ℕ) → g ≡ blanks 256 → x ≡ block_of (pairs g) n e → x ≡ block_of [] n e
zeros_with g x n e h q = q ∙ ap (λ (ps : List (List ℕ)). block_of ps n e) (ap pairs (h ∙ zeros_block) ∙ pairs-block_of [] 0 0 four_none)

on_ok : {E P : Type 0} (r : Result Unit E) → (is_ok r ≡ true → P) → OnOk r P
on_ok (Ok u) f = f refl
on_ok (Err e) f = tt

module _ (x : List ℕ) (n e : ℕ) (h : x ≡ block_of [] n e) where
  no_pairs : pairs x ≡ []
  no_pairs = ap pairs h ∙ pairs-block_of [] n e four_none

  pub none_takes : TakesRuns x
  unfolding all
  none_takes = record {
    shaped = rw h (shaped_block_of [] n e four_none (omega arith));
    inside = rw no_pairs;
  }

  -- what then joins it is all that it has
  pub joined_none : {E : Type 0} (ss : List ℕ) (r : Result Unit E) (y : List ℕ) → Extended x ss (is_ok r) y
      → (is_ok r ≡ leb (length (extended_by [] ss)) most_segments) × OnOk r (y ≡ block_of (extended_by [] ss) n e)
  joined_none ss r y a =
      let t : total x ≡ n = ap (λ (l : List ℕ). total l) h ∙ total-block_of [] n e in
      let s : stream_length x ≡ e = ap (λ (l : List ℕ). stream_length l) h ∙ stream_length-block_of [] n e in
      (rw no_pairs at a.answer, on_ok r (λ k. rw (no_pairs, t, s) at (a.made k)))
