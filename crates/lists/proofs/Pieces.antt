-- Pieces of one length: the piece at a place, a piece written, and all made from others; a part of a part, and a byte of sectors that are
-- joined.
use mathlib.Core.Path.{◌≡◌, refl, sym, ap, ◌∙◌}
use mathlib.Core.List.{List, [], ◌∷◌, ◌++◌, map}
use Prim.Native.Nat.{ℕ, zero, suc, ◌+◌, ◌*◌, ◌<◌, ◌≤◌, ◌-◌, ◌/◌, ◌%◌}
use native.Mathlib.Nat.{not-suc-le-zero, zero-add, suc-add, mul-zero, mul-suc, sub-zero, suc-sub-suc, zero-sub}
use native.Mathlib.Omega.{arith}
use native.Mathlib.Decide.{dec_lt, ℕ_discrete}
use lib.ListN.{get_or, take, drop, set, length, length-take, length-drop, length-set, length-append, get_or-append}
use lib.Seq.{drop-drop, get_or-append-add, take-nil, take_at, drop_at, drop-append-le, take-append-add, take-take, ext_get_or, get_or-set_same, get_or-set_other}
use Rattle.lists.specs.Parts.{part, put}
use Rattle.lists.specs.Lists.{pieces, flat}
use Rattle.lists.proofs.Puts.{part-put_same, part-put_before, part-put_after}

pub get_or-pieces : (w n k : ℕ) (l : List ℕ) → k < n → get_or (pieces n w l) k [] ≡ part (w * k) w l
unfolding pieces part
get_or-pieces w zero k l h = absurd (not-suc-le-zero h)
get_or-pieces w (suc n) zero l h = rw mul-zero
get_or-pieces w (suc n) (suc k) l h =
    let m : w + w * k ≡ w * suc k = rw mul-suc (omega arith) in
    get_or-pieces w n k (drop w l) (omega arith) ∙ rw (drop-drop, m)

-- byte p of the parts of 256 bytes that g gives stands in part p / 256 at p % 256
pub flat_at : (g : ℕ → List ℕ) (xs : List ℕ) → ((k : ℕ) → k < length xs → length (g (get_or xs k 0)) ≡ 256) → (p : ℕ) → p < 256 * length xs
    → get_or (flat g xs) p 0 ≡ get_or (g (get_or xs (p / 256) 0)) (p % 256) 0
unfolding flat
flat_at g [] hg p h = absurd (omega arith)
flat_at g (x ∷ xs) hg p h =
    let l : length (g x) ≡ 256 = hg 0 (omega arith) in
    elim (dec_lt p 256) [
      | yes s ↦
          let z : p / 256 ≡ 0 = omega arith in
          let m : p % 256 ≡ p = omega arith in
          rw (z, m, get_or-append (g x) (flat g xs) 0 p (omega arith))
      | no s ↦
          let q : ℕ = p - 256 in
          let e : p ≡ length (g x) + q = omega arith in
          let d : p / 256 ≡ suc (q / 256) = omega arith in
          let m : p % 256 ≡ q % 256 = omega arith in
          rw (d, m) (ap (λ (n : ℕ). get_or (g x ++ flat g xs) n 0) e ∙ get_or-append-add (g x) (flat g xs) q 0 ∙ flat_at g xs (λ k kh. hg (suc k) (omega arith)) q (omega arith))
    ]

pub drop-take : (a n : ℕ) (l : List ℕ) → drop a (take n l) ≡ take (n - a) (drop a l)
drop-take zero n l = rw sub-zero
drop-take (suc a) zero l = rw zero-sub
drop-take (suc a) (suc n) [] = sym (take-nil (suc n - suc a))
drop-take (suc a) (suc n) (x ∷ l) = rw suc-sub-suc (drop-take a n l)

-- a write inside a part
pub part-put_inside : (i j n : ℕ) (b l : List ℕ) → j ≤ i → i + length b ≤ j + n → j + n ≤ length l → part j n (put i b l) ≡ put (i - j) b (part j n l)
unfolding part put
part-put_inside i j n b l lo hi fits =
    let m : ℕ = length b in
    let r : ℕ = n - ((i - j) + m) in
    let lt : length (take i l) ≡ i = simp length-take (omega arith) in
    let p : List ℕ = take (i - j) (drop j l) in
    let lp : length p ≡ i - j = simp (length-take, length-drop) (omega arith) in
    let en : n ≡ length p + (m + r) = omega arith in
    let ei : j + ((i - j) + m) ≡ i + m = omega arith in
    let left : take n (drop j (take i l ++ (b ++ drop (i + m) l))) ≡ p ++ (b ++ take r (drop (i + m) l)) =
    rw (drop-append-le j (take i l) (b ++ drop (i + m) l) (omega arith), drop-take j i l)
    (ap (λ (q : ℕ). take q (p ++ (b ++ drop (i + m) l))) en ∙ rw (take-append-add p (b ++ drop (i + m) l) (m + r), take-append-add b (drop (i + m) l) r)) in
    left ∙ rw (drop-take ((i - j) + m) n (drop j l), drop-drop, ei, take-take (i - j) n (drop j l) (omega arith))

pub length-pieces : (n w : ℕ) (l : List ℕ) → length (pieces n w l) ≡ n
unfolding pieces
length-pieces zero w l = refl
length-pieces (suc n) w l = ap suc (length-pieces n w (drop w l))

-- an entry of 32 bytes written at place k
pub pieces-put : (n k : ℕ) (e l : List ℕ) → length e ≡ 32 → k < n → 32 * n ≤ length l → pieces n 32 (put (32 * k) e l) ≡ set (pieces n 32 l) k e
pieces-put n k e l he hk fits =
    ext_get_or [] (pieces n 32 (put (32 * k) e l)) (set (pieces n 32 l) k e)
    (length-pieces n 32 (put (32 * k) e l) ∙ sym (length-set (pieces n 32 l) k e ∙ length-pieces n 32 l))
    (λ i h.
    let hi : i < n = omega (arith, length-pieces n 32 (put (32 * k) e l)) in
    get_or-pieces 32 n i (put (32 * k) e l) hi
    ∙ elim (ℕ_discrete i k) [
      | yes q ↦
          let lk : k < length (pieces n 32 l) = omega (arith, length-pieces n 32 l) in
          rw (q, get_or-set_same (pieces n 32 l) k e [] lk) (ap (λ (w : ℕ). part (32 * k) w (put (32 * k) e l)) (sym he) ∙ part-put_same (32 * k) e l (omega arith))
      | no ne ↦
          rw (get_or-set_other (pieces n 32 l) k i e [] ne, get_or-pieces 32 n i l hi)
          (elim (dec_lt i k) [
            | yes lt ↦ part-put_before (32 * k) e l (omega arith) (32 * i) 32 (omega arith)
            | no ge ↦
                let gt : k < i = omega arith in
                part-put_after (32 * k) e l (omega arith) (32 * i) 32 (omega arith)
          ])
    ])

-- lists of w bytes that f makes of others, one after the other, are w bytes each; and cut again they are the lists
module _ {A : Type 0} (w : ℕ) (f : A → List ℕ) (d : A) where
  pub length-flat : (xs : List A) → ((i : ℕ) → i < length xs → length (f (get_or xs i d)) ≡ w) → length (flat f xs) ≡ w * length xs
  unfolding flat
  length-flat [] h = sym (mul-zero w)
  length-flat (x ∷ xs) h =
      let m : w * suc (length xs) ≡ w + w * length xs = rw mul-suc (omega arith) in
      simp length-append (omega (arith, m, h 0 (omega arith), length-flat xs (λ i l. h (suc i) (omega arith))))

  pub pieces-flat : (xs : List A) → ((i : ℕ) → i < length xs → length (f (get_or xs i d)) ≡ w) → pieces (length xs) w (flat f xs) ≡ map f xs
  unfolding flat pieces
  pieces-flat [] h = refl
  pieces-flat (x ∷ xs) h =
      rw (take_at (f x) (flat f xs) w (h 0 (omega arith)), drop_at (f x) (flat f xs) w (h 0 (omega arith)), pieces-flat xs (λ i l. h (suc i) (omega arith)))

-- what was cut into pieces, joined again
pub flat-pieces : (n w : ℕ) (l : List ℕ) → flat (λ x. x) (pieces n w l) ≡ take (w * n) l
unfolding flat pieces
flat-pieces zero w l = sym (ap (λ (m : ℕ). take m l) (mul-zero w))
flat-pieces (suc n) w l =
    ap (λ (x : List ℕ). take w l ++ x) (flat-pieces n w (drop w l)) ∙ sym (take-drop-more w (w * n) l)
    ∙ ap (λ (m : ℕ). take m l) (let z : w + w * n ≡ w * suc n = rw mul-suc (omega arith) in z)
  where
    take-drop-more : (a b : ℕ) (l : List ℕ) → take (a + b) l ≡ take a l ++ take b (drop a l)
    take-drop-more zero b l = rw zero-add
    take-drop-more (suc a) b [] = take-nil (suc a + b) ∙ sym (take-nil b)
    take-drop-more (suc a) b (x ∷ l) = rw suc-add (ap (λ (r : List ℕ). x ∷ r) (take-drop-more a b l))
