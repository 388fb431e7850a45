-- What the words that a writer stores in a well-formed access block make of it.
use mathlib.Core.Path.{◌≡◌, refl, ap, sym, ◌∙◌}
use mathlib.Core.Bool.{false, true}
use mathlib.Core.List.{List, [], ◌∷◌, ◌++◌}
use Prim.Native.Nat.{ℕ, ◌≤◌, ◌+◌, ◌*◌, ◌-◌, ◌/◌, ◌%◌, ◌<◌}
use native.Mathlib.Omega.{arith}
use lib.ListN.{length, get_or, length-append}
use lib.Dec.{eqb}
use Rattle.numbers.specs.Numbers.{most_segments}
use Rattle.lists.specs.Parts.{byte, word, bytes2, put}
use Rattle.lists.proofs.LentParts.{put_next}
use Rattle.lists.proofs.AreBytes.{Bytes}
use Rattle.ownership.specs.Code.Shapes.{follows, BlockShaped, pair, last_pair, lengthened}
use Rattle.ownership.specs.Blocks.{segments, total, stream_length, pairs, seg_start, seg_length, extended, block_of}
use Rattle.ownership.proofs.AccessBlocks.{fours-pairs, length-pairs, block_is, second_at, seg_length_at}
use Rattle.ownership.proofs.Segments.{extended_new}
use Rattle.ownership.proofs.BlockExtended.{put_total, put_stream_length, put_new, put_longer, follows_last}

follows_none : (ps : List (List ℕ)) (s : ℕ) → length ps ≡ 0 → false ≡ follows ps s
unfolding follows
follows_none [] s h = refl
follows_none (p ∷ ps) s h = absurd (omega arith)

follows_some : (ps : List (List ℕ)) (s : ℕ) → follows ps s ≡ true → 1 ≤ length ps
unfolding follows
follows_some [] s h = absurd (let z : ◌≡◌ {A = ℕ} 0 1 = cc in omega arith)
follows_some (p ∷ ps) s h = omega arith

module _ (f : List ℕ) (sh : BlockShaped f) where
  -- the last pair, where the block has it
  last_is : last_pair (pairs f) ≡ get_or (pairs f) (segments f - 1) []
  last_is = rw (length-pairs f sh)

  pub last_length : 1 ≤ segments f → seg_length (last_pair (pairs f)) ≡ word f (6 + 4 * segments f)
  last_length h =
      let z : 10 + 4 * (segments f - 1) ≡ 6 + 4 * segments f = omega arith in
      ap seg_length last_is ∙ seg_length_at f (segments f - 1) (omega arith) ∙ ap (word f) z

  -- whether a sector follows
  pub joins_none : (k s : ℕ) → k ≡ segments f → k ≡ 0 → false ≡ follows (pairs f) s
  joins_none k s e z = follows_none (pairs f) s (length-pairs f sh ∙ sym e ∙ z)

  pub joins_at : (k s st len : ℕ) → k ≡ segments f → (k ≡ 0 → ⊥) → st ≡ seg_start (get_or (pairs f) (k - 1) []) → len ≡ seg_length (get_or (pairs f) (k - 1) [])
      → eqb (st + len) s ≡ follows (pairs f) s
  joins_at k s st len e nz es el =
      let l = length-pairs f sh in
      let a : seg_start (last_pair (pairs f)) ≡ st = ap seg_start last_is ∙ sym (es ∙ ap (λ (q : ℕ). seg_start (get_or (pairs f) (q - 1) [])) e) in
      let b : seg_length (last_pair (pairs f)) ≡ len = ap seg_length last_is ∙ sym (el ∙ ap (λ (q : ℕ). seg_length (get_or (pairs f) (q - 1) [])) e) in
      sym (follows_last (pairs f) s (omega arith) ∙ rw (a, b))

  pub joins_some : (s : ℕ) → follows (pairs f) s ≡ true → 1 ≤ segments f
  joins_some s h = let l = length-pairs f sh in let m = follows_some (pairs f) s h in omega arith

  -- a sector that does not follow takes a new pair
  pub room_new : (s : ℕ) → follows (pairs f) s ≡ false → length (extended (pairs f) s) ≤ most_segments → segments f < most_segments
  room_new s h l =
      let m = length-pairs f sh in
      let e = ap length (extended_new (pairs f) s h) in
      omega (arith, e, length-append (pairs f) (pair s 1 ∷ []))

  module _ (b : Bytes f) where
    pub wrote_totals : (x : List ℕ) (n e : ℕ) → x ≡ put 4 (bytes2 (e / 65536) ++ bytes2 (e % 65536)) (put 2 (bytes2 n) f) → x ≡ block_of (pairs f) n e
    wrote_totals x n e q =
        q ∙ ap (λ (l : List ℕ). put 4 (bytes2 (e / 65536) ++ bytes2 (e % 65536)) (put 2 (bytes2 n) l)) (block_is f sh b)
        ∙ ap (put 4 (bytes2 (e / 65536) ++ bytes2 (e % 65536))) (put_total (pairs f) (total f) (stream_length f) n)
        ∙ put_stream_length (pairs f) n (stream_length f) e

    pub wrote_longer : (x : List ℕ) (k w n : ℕ) → k ≡ segments f → 1 ≤ segments f → w ≡ word f (6 + 4 * k) → x ≡ put (6 + 4 * k) (bytes2 (w + n)) f
        → x ≡ block_of (lengthened (pairs f) n) (total f) (stream_length f)
    wrote_longer x k w n e h ew q =
        let l = length-pairs f sh in
        let i : 6 + 4 * k ≡ 6 + 4 * length (pairs f) = omega arith in
        let v : w ≡ seg_length (last_pair (pairs f)) = ew ∙ ap (λ (j : ℕ). word f (6 + 4 * j)) e ∙ sym (last_length h) in
        let y : byte (last_pair (pairs f)) 1 < 256 = rw (last_is, second_at f (segments f - 1) (omega arith)) (b (9 + 4 * (segments f - 1))) in
        q ∙ ap (λ (j : ℕ). put j (bytes2 (w + n)) f) i ∙ ap (λ (j : ℕ). put (6 + 4 * length (pairs f)) (bytes2 (j + n)) f) v
        ∙ ap (put (6 + 4 * length (pairs f)) (bytes2 (seg_length (last_pair (pairs f)) + n))) (block_is f sh b)
        ∙ put_longer (pairs f) (total f) (stream_length f) n (fours-pairs f sh) (omega arith) y

    pub wrote_new : (x : List ℕ) (k s n : ℕ) → k ≡ segments f → segments f < most_segments
        → x ≡ put 0 (bytes2 (k + 1)) (put (8 + 4 * k + 2) (bytes2 n) (put (8 + 4 * k) (bytes2 s) f))
        → x ≡ block_of (pairs f ++ (pair s n ∷ [])) (total f) (stream_length f)
    wrote_new x k s n e h q =
        let l = length-pairs f sh in
        let m : k ≡ length (pairs f) = omega arith in
        q ∙ ap (put 0 (bytes2 (k + 1))) (put_next (8 + 4 * k) (bytes2 s) (bytes2 n) f (omega (arith, sh.whole)))
        ∙ ap (λ (j : ℕ). put 0 (bytes2 (j + 1)) (put (8 + 4 * j) (pair s n) f)) m
        ∙ ap (λ (y : List ℕ). put 0 (bytes2 (length (pairs f) + 1)) (put (8 + 4 * length (pairs f)) (pair s n) y)) (block_is f sh b)
        ∙ put_new (pairs f) (total f) (stream_length f) s n (fours-pairs f sh) (omega arith)
