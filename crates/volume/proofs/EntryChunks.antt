-- A part of the image as its entries: what cutting it into pieces of 32 bytes gives.
use Rattle.std.proofs.Common.{◌≡◌, ℕ, zero, suc, ◌+◌, ◌*◌, ◌/◌, ◌≤◌, ◌<◌, List, [], ◌∷◌, length, get_or, true, false, refl, sym, arith, ap, ◌∙◌, take, drop}
use Rattle.std.specs.Simd.{first_chunks}
use Rattle.lists.specs.Lists.{pieces, ◌or◌}
use Rattle.lists.specs.Parts.{part, put, bytes4}
use Rattle.lists.proofs.LentParts.{length-part}
use Rattle.lists.proofs.Pieces.{get_or-pieces}
use Rattle.lists.proofs.Puts.{put-part}
use Rattle.volume.specs.Volume.{dirs}
use Rattle.volume.specs.Directory.{entries, unused, contiguous, counted_as, with_count}
use Rattle.volume.specs.Code.Located.{Located, EntryIn, entry_byte}
use Rattle.volume.specs.declared.locate.Layout.{Layout}
use Rattle.volume.proofs.EntryCounted.{counted_other, counted_sequential}

pub chunks_pieces : (n k : ℕ) (xs : List ℕ) → first_chunks n k xs ≡ pieces k n xs
unfolding pieces
chunks_pieces n zero xs = refl
chunks_pieces n (suc k) xs = ap (λ ps. take n xs ∷ ps) (chunks_pieces n k (drop n xs))

-- one of them
pub chunk_part : (k n i : ℕ) (xs : List ℕ) → i < n → get_or (first_chunks k n xs) i [] ≡ part (k * i) k xs
chunk_part k n i xs h = rw (chunks_pieces k n xs) (get_or-pieces k n i xs h)

module _ (img : List ℕ) (p : Layout) (l : Located img p) where
  pub entries_chunks : (s : List ℕ) → s ≡ part (256 * p.dir) (256 * p.dirs) img → first_chunks 32 (length s / 32) s ≡ entries img
  unfolding entries
  entries_chunks s is =
      let long : length s ≡ 256 * p.dirs = ap length is ∙ length-part (256 * p.dir) (256 * p.dirs) img (omega (arith, l.dir_in, l.long)) in
      let count : length s / 32 ≡ 8 * dirs img = omega (arith, long, l.is_dirs) in
      rw (count, chunks_pieces 32 (8 * dirs img) s, is, l.is_dir, l.is_dirs)

-- an entry whose count stays, and one that gets another
module _ (img : List ℕ) (a n : ℕ) (h : a + 32 ≤ length img) (e : List ℕ) (is : e ≡ part a 32 img) where
  pub count_stays : unused e or contiguous e ≡ true → img ≡ put a (counted_as n (part a 32 img)) img
  count_stays o = rw (← is, counted_other n e o, is) (sym (put-part a 32 img h))

  pub count_put : unused e ≡ false → contiguous e ≡ false → put a (put 28 (bytes4 n) e) img ≡ put a (counted_as n (part a 32 img)) img
  unfolding with_count
  count_put u s = rw (← is) (ap (λ (x : List ℕ). put a x img) (sym (counted_sequential n e u s)))

-- the entry in slot k, as one of the whole image's pieces
pub chunk_entry : (img : List ℕ) (p : Layout) (k : ℕ) → EntryIn img p k → (es : List (List ℕ)) → es ≡ first_chunks 32 (length img / 32) img
    → get_or es (8 * p.dir + k) [] ≡ part (entry_byte p k) 32 img
chunk_entry img p k h es is =
    let e : 32 * (8 * p.dir + k) ≡ entry_byte p k = omega arith in
    rw (is, ← e) (chunk_part 32 (length img / 32) (8 * p.dir + k) img (omega (arith, h.inside)))
