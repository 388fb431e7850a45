-- One sector more at a file's end: the pairs of `extended`, how many sectors they stand for, and which.
use mathlib.Core.Path.{◌≡◌, ap, ◌∙◌, refl, sym}
use mathlib.Core.List.{List, [], ◌∷◌, ◌++◌, append_assoc, append-nil, map}
use mathlib.Core.Bool.{true, false, Bool}
use Prim.Native.Nat.{ℕ, suc, ◌+◌, ◌≤◌, ◌<◌, ◌-◌}
use native.Mathlib.Omega.{arith}
use native.Mathlib.Nat.{zero-add}
use lib.ListN.{length, length-append}
use lib.Dec.{ltb}
use borrow.Author.Tests.{eqb-true, le-leb, ltb-true, leb-true}
use Rattle.lists.specs.Lists.{range, flat, all, ◌and◌, sum}
use Rattle.lists.proofs.Tests.{and_left, and_right, both_true}
use Rattle.lists.proofs.Lists.{flat-append, all_at}
use Rattle.lists.proofs.Ranges.{range_snoc, length-range}
use Rattle.ownership.specs.Blocks.{seg_start, seg_length, segment, extended, extended_by, segment_sound}
use Rattle.ownership.specs.Code.Shapes.{pair, follows, lengthened, fours, last_pair}

pub seg_start-pair : (s n : ℕ) → seg_start (pair s n) ≡ s
seg_start-pair s n = omega arith

pub seg_length-pair : (s n : ℕ) → seg_length (pair s n) ≡ n
seg_length-pair s n = omega arith

pub segment-pair : (s n : ℕ) → segment (pair s n) ≡ range s n
unfolding segment
segment-pair s n = rw (seg_start-pair s n, seg_length-pair s n)

segment-one : (s : ℕ) → segment (pair s 1) ≡ s ∷ []
unfolding range
segment-one s = segment-pair s 1

pub extended_on : (ps : List (List ℕ)) (s : ℕ) → follows ps s ≡ true → extended ps s ≡ lengthened ps 1
unfolding follows extended lengthened
extended_on [] s h = absurd (let z : ◌≡◌ {A = ℕ} 0 1 = cc in omega arith)
extended_on (p ∷ []) s h = rw h
extended_on (p ∷ q ∷ ps) s h = rw (extended_on (q ∷ ps) s h)

pub extended_new : (ps : List (List ℕ)) (s : ℕ) → follows ps s ≡ false → extended ps s ≡ ps ++ (pair s 1 ∷ [])
unfolding follows extended
extended_new [] s h = refl
extended_new (p ∷ []) s h = rw h
extended_new (p ∷ q ∷ ps) s h = rw (extended_new (q ∷ ps) s h)

-- by cases: every law of `extended` is one of each
module _ (P : List (List ℕ) → Type 0) (ps : List (List ℕ)) (s : ℕ) where
  pub extended_cases : (follows ps s ≡ true → P (lengthened ps 1)) → (follows ps s ≡ false → P (ps ++ (pair s 1 ∷ []))) → P (extended ps s)
  extended_cases f g = go (follows ps s) refl
    where
      go : (b : Bool) → follows ps s ≡ b → P (extended ps s)
      go true e = rw (extended_on ps s e) (f e)
      go false e = rw (extended_new ps s e) (g e)

-- the sectors of the segments
flat-one : (s : ℕ) → flat segment (pair s 1 ∷ []) ≡ s ∷ []
unfolding flat
flat-one s = append-nil (segment (pair s 1)) ∙ segment-one s

flat-lengthened : (ps : List (List ℕ)) (s : ℕ) → follows ps s ≡ true → flat segment (lengthened ps 1) ≡ flat segment ps ++ (s ∷ [])
unfolding follows lengthened flat segment
flat-lengthened [] s h = absurd (let z : ◌≡◌ {A = ℕ} 0 1 = cc in omega arith)
flat-lengthened (p ∷ []) s h =
    append-nil (segment (pair (seg_start p) (seg_length p + 1))) ∙ segment-pair (seg_start p) (seg_length p + 1) ∙ range_snoc (seg_start p) (seg_length p)
    ∙ ap (λ (x : ℕ). range (seg_start p) (seg_length p) ++ (x ∷ [])) (eqb-true _ _ h) ∙ ap (λ (l : List ℕ). l ++ (s ∷ [])) (sym (append-nil (segment p)))
flat-lengthened (p ∷ q ∷ ps) s h =
    rw (flat-lengthened (q ∷ ps) s h) (sym (append_assoc (segment p) (flat segment (q ∷ ps)) (s ∷ [])))

pub flat-extended : (ps : List (List ℕ)) (s : ℕ) → flat segment (extended ps s) ≡ flat segment ps ++ (s ∷ [])
flat-extended ps s =
    extended_cases (λ qs. flat segment qs ≡ flat segment ps ++ (s ∷ [])) ps s (flat-lengthened ps s)
    (λ h. flat-append segment ps (pair s 1 ∷ []) ∙ ap (λ (l : List ℕ). flat segment ps ++ l) (flat-one s))

pub flat-extended_by : (ps : List (List ℕ)) (ss : List ℕ) → flat segment (extended_by ps ss) ≡ flat segment ps ++ ss
unfolding extended_by
flat-extended_by ps [] = sym (append-nil (flat segment ps))
flat-extended_by ps (s ∷ ss) = flat-extended_by (extended ps s) ss ∙ rw (flat-extended ps s) (append_assoc (flat segment ps) (s ∷ []) ss)

-- how many pairs: as many, or one more
pub length-lengthened : (ps : List (List ℕ)) (n : ℕ) → length (lengthened ps n) ≡ length ps
unfolding lengthened
length-lengthened [] n = refl
length-lengthened (p ∷ []) n = refl
length-lengthened (p ∷ q ∷ ps) n = ap suc (length-lengthened (q ∷ ps) n)

pub length-extended : (ps : List (List ℕ)) (s : ℕ) → (length ps ≤ length (extended ps s)) × (length (extended ps s) ≤ length ps + 1)
length-extended ps s =
    extended_cases (λ qs. (length ps ≤ length qs) × (length qs ≤ length ps + 1)) ps s
    (λ h. let l = length-lengthened ps 1 in (omega arith, omega arith))
    (λ h. let l = length-append ps (pair s 1 ∷ []) in (omega arith, omega arith))

pub length-extended_by : (ps : List (List ℕ)) (ss : List ℕ) → (length ps ≤ length (extended_by ps ss)) × (length (extended_by ps ss) ≤ length ps + length ss)
unfolding extended_by
length-extended_by ps [] = (omega arith, omega arith)
length-extended_by ps (s ∷ ss) =
    let a = length-extended ps s in
    let b = length-extended_by (extended ps s) ss in
    (omega arith, omega arith)

-- how many sectors they are
pub length_segments : (ps : List (List ℕ)) → length (flat segment ps) ≡ sum (map (λ p. seg_length p) ps)
unfolding flat segment
length_segments [] = refl
length_segments (p ∷ ps) = rw (length-append, length-range, length_segments ps)

-- each of them four bytes
pub fours-append : (ps qs : List (List ℕ)) → fours ps ≡ true → fours qs ≡ true → fours (ps ++ qs) ≡ true
unfolding fours all
fours-append [] qs h g = g
fours-append (p ∷ ps) qs h g = both_true _ _ (and_left _ _ h) (fours-append ps qs (and_right _ _ h) g)

pub fours_one : (s n : ℕ) → fours (pair s n ∷ []) ≡ true
unfolding fours all ◌and◌
fours_one s n = refl

fours-lengthened : (ps : List (List ℕ)) → fours ps ≡ true → fours (lengthened ps 1) ≡ true
unfolding fours all lengthened
fours-lengthened [] h = refl
fours-lengthened (p ∷ []) h = fours_one (seg_start p) (seg_length p + 1)
fours-lengthened (p ∷ q ∷ ps) h = both_true _ _ (and_left _ _ h) (fours-lengthened (q ∷ ps) (and_right _ _ h))

pub fours-extended : (ps : List (List ℕ)) (s : ℕ) → fours ps ≡ true → fours (extended ps s) ≡ true
fours-extended ps s h = extended_cases (λ qs. fours qs ≡ true) ps s (λ e. fours-lengthened ps h) (λ e. fours-append ps (pair s 1 ∷ []) h (fours_one s 1))

pub fours-extended_by : (ps : List (List ℕ)) (ss : List ℕ) → fours ps ≡ true → fours (extended_by ps ss) ≡ true
unfolding extended_by
fours-extended_by ps [] h = h
fours-extended_by ps (s ∷ ss) h = fours-extended_by (extended ps s) ss (fours-extended ps s h)

-- their lengths sum to one more
sum-append : (ps qs : List (List ℕ)) → sum (map (λ p. seg_length p) (ps ++ qs)) ≡ sum (map (λ p. seg_length p) ps) + sum (map (λ p. seg_length p) qs)
sum-append [] qs = sym (zero-add _)
sum-append (p ∷ ps) qs = let e = sum-append ps qs in omega (arith, e)

sum-lengthened : (ps : List (List ℕ)) (s : ℕ) → follows ps s ≡ true → sum (map (λ p. seg_length p) (lengthened ps 1)) ≡ sum (map (λ p. seg_length p) ps) + 1
unfolding follows lengthened
sum-lengthened [] s h = absurd (let z : ◌≡◌ {A = ℕ} 0 1 = cc in omega arith)
sum-lengthened (p ∷ []) s h = let e = seg_length-pair (seg_start p) (seg_length p + 1) in omega (arith, e)
sum-lengthened (p ∷ q ∷ ps) s h = let e = sum-lengthened (q ∷ ps) s h in omega (arith, e)

pub sum-extended : (ps : List (List ℕ)) (s : ℕ) → sum (map (λ p. seg_length p) (extended ps s)) ≡ sum (map (λ p. seg_length p) ps) + 1
sum-extended ps s =
    extended_cases (λ qs. sum (map (λ p. seg_length p) qs) ≡ sum (map (λ p. seg_length p) ps) + 1) ps s (sum-lengthened ps s)
    (λ h. let e = sum-append ps (pair s 1 ∷ []) in omega (arith, e, seg_length-pair s 1))

pub sum-extended_by : (ps : List (List ℕ)) (ss : List ℕ) → sum (map (λ p. seg_length p) (extended_by ps ss)) ≡ sum (map (λ p. seg_length p) ps) + length ss
unfolding extended_by
sum-extended_by ps [] = omega arith
sum-extended_by ps (s ∷ ss) = sum-extended_by (extended ps s) ss ∙ omega (arith, sum-extended ps s)

-- each lies inside the volume
module _ (t : ℕ) where
  sound_pair : (s n : ℕ) → 1 ≤ n → s + n ≤ t → segment_sound t (pair s n) ≡ true
  unfolding segment_sound
  sound_pair s n h g =
      let a : 1 ≤ seg_length (pair s n) = omega (arith, seg_length-pair s n) in
      let b : seg_start (pair s n) + seg_length (pair s n) ≤ t = omega (arith, seg_start-pair s n, seg_length-pair s n) in
      both_true _ _ (le-leb _ _ a) (le-leb _ _ b)

  sound_append : (ps qs : List (List ℕ)) → all (segment_sound t) ps ≡ true → all (segment_sound t) qs ≡ true → all (segment_sound t) (ps ++ qs) ≡ true
  unfolding all
  sound_append [] qs h g = g
  sound_append (p ∷ ps) qs h g = both_true _ _ (and_left _ _ h) (sound_append ps qs (and_right _ _ h) g)

  sound_lengthened : (ps : List (List ℕ)) (s : ℕ) → follows ps s ≡ true → s < t → all (segment_sound t) ps ≡ true → all (segment_sound t) (lengthened ps 1) ≡ true
  unfolding follows lengthened all
  sound_lengthened [] s h l g = refl
  sound_lengthened (p ∷ []) s h l g =
      let e : seg_start p + seg_length p ≡ s = eqb-true _ _ h in
      both_true _ _ (sound_pair (seg_start p) (seg_length p + 1) (omega arith) (omega arith)) refl
  sound_lengthened (p ∷ q ∷ ps) s h l g = both_true _ _ (and_left _ _ g) (sound_lengthened (q ∷ ps) s h l (and_right _ _ g))

  pub sound_extended : (ps : List (List ℕ)) (s : ℕ) → s < t → all (segment_sound t) ps ≡ true → all (segment_sound t) (extended ps s) ≡ true
  unfolding all
  sound_extended ps s l h =
      extended_cases (λ qs. all (segment_sound t) qs ≡ true) ps s (λ e. sound_lengthened ps s e l h)
      (λ e. sound_append ps (pair s 1 ∷ []) h (both_true _ _ (sound_pair s 1 (omega arith) (omega arith)) refl))

  pub sound_extended_by : (ps : List (List ℕ)) (ss : List ℕ) → all (λ s. ltb s t) ss ≡ true → all (segment_sound t) ps ≡ true → all (segment_sound t) (extended_by ps ss) ≡ true
  unfolding extended_by all
  sound_extended_by ps [] l h = h
  sound_extended_by ps (s ∷ ss) l h = sound_extended_by (extended ps s) ss (and_right _ _ l) (sound_extended ps s (ltb-true _ _ (and_left _ _ l)) h)

-- the last pair
pub last_pair-cons : (p : List ℕ) (ps : List (List ℕ)) → 1 ≤ length ps → last_pair (p ∷ ps) ≡ last_pair ps
last_pair-cons p ps h = let z : suc (length ps) - 1 ≡ suc (length ps - 1) = omega arith in rw z

-- a segment inside a volume of t sectors is no longer than that, so that one sector more still fits a word
pub last_pair_short : (t : ℕ) (ps : List (List ℕ)) → all (segment_sound t) ps ≡ true → seg_length (last_pair ps) ≤ t
unfolding segment_sound
last_pair_short t [] h = omega arith
last_pair_short t (p ∷ ps) h =
    let g = all_at (segment_sound t) (p ∷ ps) (suc (length ps) - 1) [] h (omega arith) in
    let l : seg_start (last_pair (p ∷ ps)) + seg_length (last_pair (p ∷ ps)) ≤ t = leb-true _ _ (and_right _ _ g) in
    omega arith
