-- The tests of an access block, pair by pair.
use mathlib.Core.Path.{◌≡◌}
use mathlib.Core.List.{List}
use mathlib.Core.Bool.{false, true}
use Prim.Native.Nat.{ℕ, ◌+◌, ◌<◌, ◌≤◌, ◌*◌, ◌-◌}
use native.Mathlib.Omega.{arith}
use lib.ListN.{length, drop, take, length-drop}
use lib.Seq.{take_all}
use lib.Dec.{leb}
use borrow.Author.Tests.{lt-ltb, le-ltb}
use Rattle.lists.specs.Lists.{◌and◌}
use Rattle.lists.specs.Parts.{sectors, sector}
use Rattle.lists.proofs.Pieces.{length-pieces}
use Rattle.volume.specs.Directory.{unused, contiguous, start, size}
use Rattle.ownership.specs.Blocks.{seg_start, seg_length, segments, pairs, segment_sound, block_sound, placed, block}

-- a pair, by its two words
pub segment_at : (t : ℕ) (p : List ℕ) (s n : ℕ) → s ≡ seg_start p → n ≡ seg_length p → segment_sound t p ≡ leb 1 n and leb (s + n) t
unfolding segment_sound
segment_at t p s n es en = rw (es, en)

pub pairs-length : (f : List ℕ) → length (pairs f) ≡ segments f
unfolding pairs
pairs-length f = length-pieces (segments f) 4 (drop 8 f)

-- the sectors of an image of whole sectors
pub sectors_are : (img : List ℕ) (t : ℕ) → length img ≡ 256 * t → sectors img ≡ t
unfolding sectors
sectors_are img t h = omega arith

-- an entry: unused, which points nowhere, contiguous, or sequential
pub placed-unused : (img e : List ℕ) → unused e ≡ true → placed img e ≡ true
unfolding placed
placed-unused img e u = rw u

module _ (img e : List ℕ) (t : ℕ) (long : length img ≡ 256 * t) where
  pub placed-contiguous : (s n : ℕ) → unused e ≡ false → contiguous e ≡ true → s ≡ start e → n ≡ size e → leb (s + n) t ≡ placed img e
  unfolding placed
  placed-contiguous s n u k es en = rw (u, k, sectors_are img t long, es, en)

  pub placed_sequential : (s : ℕ) → unused e ≡ false → contiguous e ≡ false → s ≡ start e → s < t → block_sound t (sector s img) ≡ placed img e
  unfolding placed block ◌and◌
  placed_sequential s u k es h = rw (u, k, sectors_are img t long, ← es, lt-ltb s t h)

  pub placed_out : (s : ℕ) → unused e ≡ false → contiguous e ≡ false → s ≡ start e → t ≤ s → false ≡ placed img e
  unfolding placed ◌and◌
  placed_out s u k es h = rw (u, k, sectors_are img t long, ← es, le-ltb s t h)

-- what the checker says of a part up to the end
pub rest_lent : (l : List ℕ) (n k : ℕ) → length l ≡ n → take (n - k) (drop k l) ≡ drop k l
rest_lent l n k e = let h : length (drop k l) ≤ n - k = simp length-drop (omega arith) in take_all (n - k) (drop k l) h
