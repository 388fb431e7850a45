-- A run of sectors more at a file's end: the last segment as much longer, or one segment more.
use mathlib.Core.Path.{◌≡◌, refl, ap, ◌∙◌}
use mathlib.Core.Bool.{true, false}
use mathlib.Core.List.{List, [], ◌∷◌, ◌++◌}
use Prim.Native.Nat.{ℕ, zero, suc, ◌+◌}
use native.Mathlib.Omega.{arith}
use borrow.Author.Tests.{eqb-true, eq-eqb}
use Rattle.lists.specs.Lists.{range}
use Rattle.ownership.specs.Blocks.{seg_start, seg_length, extended, extended_by}
use Rattle.ownership.specs.Code.Shapes.{pair, follows, lengthened}
use Rattle.ownership.proofs.Segments.{seg_start-pair, seg_length-pair, extended_on, extended_new}
use Rattle.ownership.proofs.BlockExtended.{lengthened_snoc}

pub extended_by-append : (ps : List (List ℕ)) (a b : List ℕ) → extended_by ps (a ++ b) ≡ extended_by (extended_by ps a) b
unfolding extended_by
extended_by-append ps [] b = refl
extended_by-append ps (s ∷ a) b = extended_by-append (extended ps s) a b

-- what follows the last segment then, and both at once
follows-lengthened : (ps : List (List ℕ)) (s : ℕ) → follows ps s ≡ true → follows (lengthened ps 1) (suc s) ≡ true
unfolding follows lengthened
follows-lengthened [] s h = absurd (let z : ◌≡◌ {A = ℕ} 0 1 = cc in omega arith)
follows-lengthened (p ∷ []) s h =
    let q : seg_start p + seg_length p ≡ s = eqb-true _ _ h in
    eq-eqb (seg_start (pair (seg_start p) (seg_length p + 1)) + seg_length (pair (seg_start p) (seg_length p + 1))) (suc s)
    (omega (arith, seg_start-pair (seg_start p) (seg_length p + 1), seg_length-pair (seg_start p) (seg_length p + 1)))
follows-lengthened (p ∷ q ∷ []) s h = follows-lengthened (q ∷ []) s h
follows-lengthened (p ∷ q ∷ r ∷ ps) s h = follows-lengthened (q ∷ r ∷ ps) s h

follows_snoc : (ps : List (List ℕ)) (s : ℕ) → follows (ps ++ (pair s 1 ∷ [])) (suc s) ≡ true
unfolding follows
follows_snoc [] s = eq-eqb (seg_start (pair s 1) + seg_length (pair s 1)) (suc s) (omega (arith, seg_start-pair s 1, seg_length-pair s 1))
follows_snoc (p ∷ []) s = follows_snoc [] s
follows_snoc (p ∷ q ∷ ps) s = follows_snoc (q ∷ ps) s

lengthened_twice : (ps : List (List ℕ)) (m n : ℕ) → lengthened (lengthened ps m) n ≡ lengthened ps (m + n)
unfolding lengthened
lengthened_twice [] m n = refl
lengthened_twice (p ∷ []) m n =
    let z : seg_length p + m + n ≡ seg_length p + (m + n) = omega arith in
    rw (seg_start-pair (seg_start p) (seg_length p + m), seg_length-pair (seg_start p) (seg_length p + m), z)
lengthened_twice (p ∷ q ∷ []) m n = ap (λ (l : List (List ℕ)). p ∷ l) (lengthened_twice (q ∷ []) m n)
lengthened_twice (p ∷ q ∷ r ∷ ps) m n = ap (λ (l : List (List ℕ)). p ∷ l) (lengthened_twice (q ∷ r ∷ ps) m n)

-- the run joins the last segment, or is a new one
pub run_on : (ps : List (List ℕ)) (s m : ℕ) → follows ps s ≡ true → extended_by ps (range s (suc m)) ≡ lengthened ps (suc m)
unfolding extended_by range
run_on ps s zero h = extended_on ps s h
run_on ps s (suc m) h =
    let z : 1 + suc m ≡ suc (suc m) = omega arith in
    ap (λ (l : List (List ℕ)). extended_by l (range (suc s) (suc m))) (extended_on ps s h)
    ∙ run_on (lengthened ps 1) (suc s) m (follows-lengthened ps s h)
    ∙ lengthened_twice ps 1 (suc m)
    ∙ ap (lengthened ps) z

pub run_new : (ps : List (List ℕ)) (s m : ℕ) → follows ps s ≡ false → extended_by ps (range s (suc m)) ≡ ps ++ (pair s (suc m) ∷ [])
unfolding extended_by range
run_new ps s zero h = extended_new ps s h
run_new ps s (suc m) h =
    let z : seg_length (pair s 1) + suc m ≡ suc (suc m) = omega (arith, seg_length-pair s 1) in
    ap (λ (l : List (List ℕ)). extended_by l (range (suc s) (suc m))) (extended_new ps s h)
    ∙ run_on (ps ++ (pair s 1 ∷ [])) (suc s) m (follows_snoc ps s)
    ∙ lengthened_snoc ps (pair s 1) (suc m)
    ∙ rw (seg_start-pair s 1, z)
