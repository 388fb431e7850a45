-- A block's pairs as the pieces of four bytes that std makes of them, and the walks over them in std's words.
use Rattle.std.proofs.Common.{◌≡◌, ℕ, zero, suc, ◌+◌, ◌*◌, ◌-◌, ◌/◌, ◌≤◌, ◌<◌, List, [], ◌∷◌, length, refl, ap, ◌∙◌, sym, arith, take, drop, map, get_or, length-take, length-drop}
use Rattle.std.specs.List.{sum_by}
use Rattle.std.specs.Simd.{first_chunks}
use Rattle.std.proofs.lemmas.List.{drop-take, get_or_default}
use Rattle.lists.specs.Lists.{pieces, sum}
use Rattle.ownership.specs.Blocks.{segments, pairs, seg_start, seg_length}
use Rattle.std.proofs.lemmas.List.Sums.{sum_by-cons}

front_of : (n k : ℕ) (xs : List ℕ) → n ≤ k → take n (take k xs) ≡ take n xs
front_of zero k xs h = refl
front_of (suc n) zero xs h = absurd (omega arith)
front_of (suc n) (suc k) [] h = refl
front_of (suc n) (suc k) (x ∷ xs) h = ap (λ (ys : List ℕ). x ∷ ys) (front_of n k xs (omega arith))

cons_both : {x y : List ℕ} {xs ys : List (List ℕ)} → x ≡ y → xs ≡ ys → x ∷ xs ≡ y ∷ ys
cons_both p q = cc

-- the pieces of what ends with them
chunks_pieces : (k : ℕ) (xs : List ℕ) → first_chunks 4 k (take (4 * k) xs) ≡ pieces k 4 xs
unfolding pieces
chunks_pieces zero xs = refl
chunks_pieces (suc k) xs =
    let z : 4 * suc k ≡ 4 + 4 * k = omega arith in
    ap (λ (n : ℕ). first_chunks 4 (suc k) (take n xs)) z
    ∙ cons_both (front_of 4 (4 + 4 * k) xs (omega arith)) (ap (first_chunks 4 k) (drop-take 4 (4 * k) xs) ∙ chunks_pieces k (drop 4 xs))

-- the pairs of a block, as the part of it that has them
pub pairs_made : (f : List ℕ) (n : ℕ) → n ≡ segments f → 8 + 4 * n ≤ length f
    → first_chunks 4 (length (take (8 + 4 * n - 8) (drop 8 f)) / 4) (take (8 + 4 * n - 8) (drop 8 f)) ≡ pairs f
unfolding pairs
pairs_made f n e h =
    let z : 8 + 4 * n - 8 ≡ 4 * n = omega arith in
    let l : length (take (4 * n) (drop 8 f)) ≡ 4 * n = simp (length-take, length-drop) (omega arith) in
    let k : length (take (4 * n) (drop 8 f)) / 4 ≡ n = omega arith in
    ap (λ (m : ℕ). first_chunks 4 (length (take m (drop 8 f)) / 4) (take m (drop 8 f))) z
    ∙ ap (λ (m : ℕ). first_chunks 4 m (take (4 * n) (drop 8 f))) k
    ∙ chunks_pieces n (drop 8 f)
    ∙ ap (λ (m : ℕ). pieces m 4 (drop 8 f)) e

pub sum_listed : (ps : List (List ℕ)) → sum (map (λ p. seg_length p) ps) ≡ sum_by (λ p. seg_length p) ps
sum_listed [] = refl
sum_listed (p ∷ ps) = ap (λ (n : ℕ). seg_length p + n) (sum_listed ps) ∙ sym (sum_by-cons (λ p. seg_length p) p ps)

-- a pair that a walk reads
module _ (f : List ℕ) (ps : List (List ℕ)) (i : ℕ) (d : List ℕ) (x : ℕ) (e : ps ≡ pairs f) (h : i < length ps) where
  pub pair_start : x ≡ seg_start (get_or ps i d) → x ≡ seg_start (get_or (pairs f) i [])
  pair_start q = q ∙ ap (λ (p : List ℕ). seg_start p) (get_or_default ps i d [] h ∙ ap (λ (xs : List (List ℕ)). get_or xs i []) e)

  pub pair_length : x ≡ seg_length (get_or ps i d) → x ≡ seg_length (get_or (pairs f) i [])
  pair_length q = q ∙ ap (λ (p : List ℕ). seg_length p) (get_or_default ps i d [] h ∙ ap (λ (xs : List (List ℕ)). get_or xs i []) e)
