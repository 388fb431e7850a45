-- The directory's slots as parts of the image: where an entry stands, and what writing one keeps.
use mathlib.Core.Path.{◌≡◌, ◌∙◌, ap, sym, refl}
use mathlib.Core.List.{List, []}
use mathlib.Core.Bool.{false}
use Prim.Native.Nat.{ℕ, ◌+◌, ◌-◌, ◌≤◌, ◌*◌, ◌<◌}
use native.Mathlib.Omega.{arith}
use native.Mathlib.Nat.{add-sub_cancel_left}
use lib.ListN.{drop, length, get_or, take, set}
use lib.Seq.{take-take, drop-drop}
use Rattle.lists.specs.Parts.{part, sector, put, sectors}
use Rattle.lists.specs.Lists.{same, range, among}
use Rattle.lists.proofs.Pieces.{get_or-pieces, drop-take, part-put_inside, length-pieces, pieces-put}
use Rattle.lists.proofs.LentParts.{lent, length-part}
use Rattle.lists.proofs.Keeps.{Keeps, Keeps-put}
use Rattle.volume.specs.Volume.{dirs, dir_at}
use Rattle.volume.specs.Directory.{entries, entry_at, described, named, put_entry}
use Rattle.volume.specs.Code.Located.{Located}
use Rattle.volume.specs.declared.locate.Layout.{Layout}
use Rattle.volume.proofs.LayoutKept.{keeps_dir_at, keeps_dirs}

-- a part of a part
pub part-part : (i n j m : ℕ) (l : List ℕ) → j + m ≤ n → part j m (part i n l) ≡ part (i + j) m l
unfolding part
part-part i n j m l h = rw (drop-take j n (drop i l), take-take m (n - j) (drop j (drop i l)) (omega arith), drop-drop j i l)

pub length-entries : (img : List ℕ) → length (entries img) ≡ 8 * dirs img
unfolding entries
length-entries img = length-pieces (8 * dirs img) 32 _

pub entry_part : (img : List ℕ) (k : ℕ) → k < 8 * dirs img → entry_at img k ≡ part (256 * dir_at img + 32 * k) 32 img
unfolding entry_at entries
entry_part img k h =
    get_or-pieces 32 (8 * dirs img) k (part (256 * dir_at img) (256 * dirs img) img) h
    ∙ part-part (256 * dir_at img) (256 * dirs img) (32 * k) 32 img (omega arith)

-- slot 8 j + k is entry k of directory sector j
pub entry_sector : (img : List ℕ) (j k : ℕ) → j < dirs img → k < 8 → entry_at img (8 * j + k) ≡ part (32 * k) 32 (sector (dir_at img + j) img)
unfolding sector
entry_sector img j k hj hk =
    let e : 256 * dir_at img + 32 * (8 * j + k) ≡ 256 * (dir_at img + j) + 32 * k = omega arith in
    entry_part img (8 * j + k) (omega arith) ∙ ap (λ (i : ℕ). part i 32 img) e ∙ sym (part-part (256 * (dir_at img + j)) 256 (32 * k) 32 img (omega arith))

pub described-sector : (img : List ℕ) (j k : ℕ) → j < dirs img → k < 8 → described (entry_at img (8 * j + k)) ≡ part (32 * k + 2) 20 (sector (dir_at img + j) img)
unfolding described
described-sector img j k hj hk = rw (entry_sector img j k hj hk) (part-part (32 * k) 32 2 20 (sector (dir_at img + j) img) (omega arith))

pub count_slots : (img : List ℕ) (p : Layout) → Located img p → length (entries img) ≡ 8 * p.dirs
count_slots img p l = length-entries img ∙ ap (λ (n : ℕ). 8 * n) (sym l.is_dirs)

-- the name of slot 8 j + k, as the search reads it from sector j, which it holds as b
pub named_at : (img : List ℕ) (p : Layout) → Located img p → (d : List ℕ) (j k : ℕ) → j < p.dirs → k < 8 → (b : List ℕ) → b ≡ sector (p.dir + j) img
    → named d (get_or (entries img) (8 * j + k) []) ≡ same d (take (32 * k + 2 + 20 - (32 * k + 2)) (drop (32 * k + 2) b))
unfolding named entry_at
named_at img p l d j k hj hk b q =
    let e = l.is_dirs in
    ap (same d) (described-sector img j k (omega arith) hk)
    ∙ ap (λ (r : ℕ). same d (part (32 * k + 2) 20 (sector (r + j) img))) (sym l.is_dir)
    ∙ ap (λ (x : List ℕ). same d (part (32 * k + 2) 20 x)) (sym q) ∙ ap (same d) (sym (lent (32 * k + 2) (32 * k + 2 + 20) 20 b refl))

module _ (img : List ℕ) (p : Layout) (l : Located img p) (k : ℕ) (h : k < 8 * p.dirs) where
  slot_in : k < 8 * dirs img
  slot_in = let e = l.is_dirs in omega arith

  pub entry_at_lem : entry_at img k ≡ part (256 * p.dir + 32 * k) 32 img
  entry_at_lem = entry_part img k slot_in ∙ ap (λ (d : ℕ). part (256 * d + 32 * k) 32 img) (sym l.is_dir)

  pub length_entry : length (entry_at img k) ≡ 32
  length_entry = ap length entry_at_lem ∙ length-part (256 * p.dir + 32 * k) 32 img (omega arith)

  -- an entry written: the other sectors stay, and where the trailer lies outside the directory, so do the other entries
  module _ (e : List ℕ) (n : length e ≡ 32) where
    pub entry_Keeps : Keeps (range (dir_at img) (dirs img)) img (put_entry img k e img)
    unfolding put_entry
    entry_Keeps =
        let d = l.is_dir in
        let m = l.is_dirs in
        Keeps-put (dir_at img) (dirs img) (256 * dir_at img + 32 * k) e img (omega arith) (omega arith) (omega arith)

    pub entries_put : among (sectors img - 1) (range (dir_at img) (dirs img)) ≡ false → entries (put_entry img k e img) ≡ set (entries img) k e
    unfolding entries put_entry
    entries_put out =
        let a : dir_at (put_entry img k e img) ≡ dir_at img = keeps_dir_at _ img (put_entry img k e img) entry_Keeps out in
        let d : dirs (put_entry img k e img) ≡ dirs img = keeps_dirs _ img (put_entry img k e img) entry_Keeps out in
        let i : ℕ = 256 * dir_at img in
        let q : part i (256 * dirs img) (put (i + 32 * k) e img) ≡ put (32 * k) e (part i (256 * dirs img) img) =
        rw (add-sub_cancel_left i (32 * k)) at (part-put_inside (i + 32 * k) i (256 * dirs img) e img (omega arith) (omega (arith, slot_in))
        (omega (arith, l.is_dir, l.is_dirs))) in
        rw (a, d, q) (pieces-put (8 * dirs img) k e (part i (256 * dirs img) img) n slot_in
        (omega (arith, length-part i (256 * dirs img) img (omega (arith, l.is_dir, l.is_dirs)))))
