-- Laws of `part`, `put`, `sector` and `put_sector`.
use mathlib.Core.Path.{◌≡◌, refl, ap, ◌∙◌, sym}
use mathlib.Core.List.{List, [], ◌∷◌, ◌++◌}
use mathlib.Core.Logic.{◌≢◌}
use Prim.Native.Nat.{ℕ, ◌+◌, ◌≤◌, ◌-◌, ◌*◌, ◌<◌}
use native.Mathlib.Omega.{arith}
use native.Mathlib.Nat.{add-zero}
use native.Mathlib.Numerals.{add-one}
use native.Mathlib.Decide.{dec_lt}
use lib.ListN.{length, set, drop, length-drop, take, length-append, length-take, take-append-drop, length-replicate}
use lib.Seq.{set_split, take-append-le, drop-append-le, drop-append-add, drop-drop, take_at, drop_at}
use borrow.Rule.Slice.PartMut.{put_mid, Post-is}
use Rattle.lists.specs.Parts.{part, put, sector, put_sector, blanks}

-- what stands in front does not depend on what follows
front : (p x y : List ℕ) (j n : ℕ) → j + n ≤ length p → part j n (p ++ x) ≡ part j n (p ++ y)
unfolding part
front p x y j n h =
    let hj : j ≤ length p = omega arith in
    let hn : n ≤ length (drop j p) = simp length-drop (omega arith) in
    rw (drop-append-le j p x, take-append-le n (drop j p) x, drop-append-le j p y, take-append-le n (drop j p) y)

module _ (i : ℕ) (b l : List ℕ) (fits : i + length b ≤ length l) where
  pub length-put : length (put i b l) ≡ length l
  unfolding put
  length-put = simp (length-append, length-take, length-drop) (omega arith)

  pub part-put_before : (j n : ℕ) → j + n ≤ i → part j n (put i b l) ≡ part j n l
  unfolding put
  part-put_before j n h =
      let hp : j + n ≤ length (take i l) = simp length-take (omega arith) in
      front (take i l) (b ++ drop (i + length b) l) (drop i l) j n hp ∙ ap (part j n) (take-append-drop i l)

  pub part-put_after : (j n : ℕ) → i + length b ≤ j → part j n (put i b l) ≡ part j n l
  unfolding put part
  part-put_after j n h =
      let e : j ≡ length (take i l) + (length b + (j - (i + length b))) = simp length-take (omega arith) in
      let e2 : (i + length b) + (j - (i + length b)) ≡ j = omega arith in
      ap (λ (k : ℕ). take n (drop k (take i l ++ (b ++ drop (i + length b) l)))) e
      ∙ simp (drop-append-add, drop-drop, e2)

  pub part-put_same : part i (length b) (put i b l) ≡ b
  unfolding put part
  part-put_same =
      let hi : length (take i l) ≡ i = simp length-take (omega arith) in
      rw (drop_at (take i l) (b ++ drop (i + length b) l) i hi, take_at b (drop (i + length b) l) (length b) refl)

-- nothing written, one byte written, and a part put back where it was
pub put_none : (i : ℕ) (l : List ℕ) → put i [] l ≡ l
unfolding put
put_none i l = rw add-zero (take-append-drop i l)

pub put_one : (i v : ℕ) (l : List ℕ) → i < length l → set l i v ≡ put i (v ∷ []) l
unfolding put
put_one i v l h = rw (set_split l i v h, add-one i)

pub put-part : (i n : ℕ) (l : List ℕ) → i + n ≤ length l → put i (part i n l) l ≡ l
unfolding put part
put-part i n l h =
    let e : length (take n (drop i l)) ≡ n = simp (length-take, length-drop) (omega arith) in
    ap (λ (k : ℕ). take i l ++ (take n (drop i l) ++ drop (i + k) l)) e
    ∙ ap (λ (x : List ℕ). take i l ++ (take n (drop i l) ++ x)) (sym (drop-drop n i l))
    ∙ ap (λ (x : List ℕ). take i l ++ x) (take-append-drop n (drop i l))
    ∙ take-append-drop i l

-- a sector written is read back, and leaves the others
module _ (s : ℕ) (b l : List ℕ) (one : length b ≡ 256) (fits : 256 * s + 256 ≤ length l) where
  pub sector_same : sector s (put_sector s b l) ≡ b
  unfolding sector put_sector
  sector_same = ap (λ (n : ℕ). part (256 * s) n (put (256 * s) b l)) (sym one) ∙ part-put_same (256 * s) b l (omega arith)

  pub sector_other : (t : ℕ) → s ≢ t → sector t (put_sector s b l) ≡ sector t l
  unfolding sector put_sector
  sector_other t ne = elim (dec_lt s t) [
    | yes h ↦ part-put_after (256 * s) b l (omega arith) (256 * t) 256 (omega arith)
    | no h ↦ part-put_before (256 * s) b l (omega arith) (256 * t) 256 (omega arith)
  ]

-- what the borrow checker says of a part that came back, by `put`
pub put_mid_lem : (a e : ℕ) (xs ys : List ℕ) → a ≤ e → length ys ≡ e - a → put_mid a (e - a) xs ys ≡ put a ys xs
unfolding put
put_mid_lem a e xs ys h l =
    let s : a + length ys ≡ e = omega arith in
    rw (Post-is a e xs h, s)

pub length-blanks : (n : ℕ) → length (blanks n) ≡ n
unfolding blanks
length-blanks n = length-replicate n 0

-- a sector written keeps the length of an image of t sectors
pub long_sector : (t s : ℕ) (b l : List ℕ) → length b ≡ 256 → length l ≡ 256 * t → s < t → length (put_sector s b l) ≡ 256 * t
unfolding put_sector
long_sector t s b l hb hl h = length-put (256 * s) b l (omega arith) ∙ hl
