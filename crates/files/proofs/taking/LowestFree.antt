-- Free sectors, the lowest of which a file takes: each is free, inside the volume and nobody's, and no two are one.
use mathlib.Core.Path.{◌≡◌, refl, ap, ◌∙◌, sym}
use mathlib.Core.Bool.{Bool, true, false, not}
use mathlib.Core.List.{List, [], ◌∷◌}
use mathlib.Core.Logic.{◌≢◌}
use Prim.Native.Nat.{ℕ, zero, suc, ◌≤◌, ◌<◌}
use native.Mathlib.Omega.{arith}
use native.Mathlib.Decide.{dec_lt}
use lib.ListN.{take, drop, take-append-drop, length}
use lib.Seq.{length-take-le}
use lib.Dec.{ltb, eqb}
use borrow.Author.Tests.{not-true, ltb-true, eqb-false, ne_eqb, eqb-true, lt-ltb}
use Rattle.lists.specs.Lists.{all, kept, among, distinct, range}
use Rattle.lists.specs.Parts.{sectors}
use Rattle.lists.proofs.Tests.{and_left, and_right, both_true, or_left, or_right, not_both}
use Rattle.lists.proofs.Lists.{all-among, all_ext}
use Rattle.lists.proofs.RangeParts.{distinct-range}
use Rattle.lists.proofs.Ranges.{range_below}
use Rattle.volume.specs.Volume.{sat}
use Rattle.volume.specs.Sat.{marked, owns, is_free, free_sectors, free, lowest}
use Rattle.volume.proofs.Bits.{marked-sat_of}
use Rattle.records.proofs.LaidStream.{inside}
use Rattle.ownership.specs.Owners.{all_owned}
use Rattle.files.proofs.SequentialFile.{distinct_front}
use Rattle.files.proofs.SoundFacts.{Facts}
use Rattle.files.proofs.Kept.FileSame.{clear}
use Rattle.files.proofs.OwnersApart.{clear_by}

-- what is kept passes, and passes what all pass
module _ (p : ℕ → Bool) where
  pub kept_pass : (xs : List ℕ) → all p (kept p xs) ≡ true
  unfolding kept all
  kept_pass [] = refl
  kept_pass (x ∷ xs) = go (p x) refl (kept_pass xs)
    where
      go : (b : Bool) → p x ≡ b → all p (kept p xs) ≡ true → all p (kept p (x ∷ xs)) ≡ true
      go true q h = rw (kept, q) (both_true _ _ q h)
      go false q h = rw (kept, q) h

  pub all-kept : (r : ℕ → Bool) (xs : List ℕ) → all r xs ≡ true → all r (kept p xs) ≡ true
  unfolding kept all
  all-kept r [] h = refl
  all-kept r (x ∷ xs) h = go (p x) refl (all-kept r xs (and_right _ _ h))
    where
      go : (b : Bool) → p x ≡ b → all r (kept p xs) ≡ true → all r (kept p (x ∷ xs)) ≡ true
      go true q g = rw (kept, q) (both_true _ _ (and_left _ _ h) g)
      go false q g = rw (kept, q) g

  among-kept : (u : ℕ) (xs : List ℕ) → among u xs ≡ false → among u (kept p xs) ≡ false
  unfolding kept among
  among-kept u [] h = refl
  among-kept u (x ∷ xs) h = go (p x) refl (among-kept u xs (or_right _ _ h))
    where
      go : (b : Bool) → p x ≡ b → among u (kept p xs) ≡ false → among u (kept p (x ∷ xs)) ≡ false
      go true q g = rw (kept, q) (not_both _ _ (or_left _ _ h) g)
      go false q g = rw (kept, q) g

  pub distinct-kept : (xs : List ℕ) → distinct xs ≡ true → distinct (kept p xs) ≡ true
  unfolding kept distinct
  distinct-kept [] h = refl
  distinct-kept (x ∷ xs) h = go (p x) refl (distinct-kept xs (and_right _ _ h))
    where
      go : (b : Bool) → p x ≡ b → distinct (kept p xs) ≡ true → distinct (kept p (x ∷ xs)) ≡ true
      go true q g = rw (kept, q) (both_true _ _ (ap not (among-kept x xs (not-true _ (and_left _ _ h)))) g)
      go false q g = rw (kept, q) g

pub all-take : (r : ℕ → Bool) (n : ℕ) (xs : List ℕ) → all r xs ≡ true → all r (take n xs) ≡ true
unfolding all
all-take r zero xs h = refl
all-take r (suc n) [] h = refl
all-take r (suc n) (x ∷ xs) h = both_true _ _ (and_left _ _ h) (all-take r n xs (and_right _ _ h))

pub distinct-take : (n : ℕ) (xs : List ℕ) → distinct xs ≡ true → distinct (take n xs) ≡ true
distinct-take n xs h = distinct_front (take n xs) (drop n xs) (ap distinct (take-append-drop n xs) ∙ h)

module _ (v : List ℕ) (n : ℕ) where
  pub lowest_free : all (is_free (sat v)) (lowest n v) ≡ true
  unfolding lowest free_sectors
  lowest_free = all-take (is_free (sat v)) n (kept (is_free (sat v)) (range 0 (sectors v))) (kept_pass (is_free (sat v)) (range 0 (sectors v)))

  pub lowest-inside : inside (sectors v) (lowest n v) ≡ true
  unfolding lowest free_sectors
  lowest-inside =
      all-take (λ s. ltb s (sectors v)) n (kept (is_free (sat v)) (range 0 (sectors v)))
      (all-kept (is_free (sat v)) (λ s. ltb s (sectors v)) (range 0 (sectors v)) (range_below (sectors v) 0 (sectors v) (omega arith)))

  pub lowest-distinct : distinct (lowest n v) ≡ true
  unfolding lowest free_sectors
  lowest-distinct = distinct-take n (kept (is_free (sat v)) (range 0 (sectors v))) (distinct-kept (is_free (sat v)) (range 0 (sectors v)) (distinct-range 0 (sectors v)))

  pub length-lowest : n ≤ free v → length (lowest n v) ≡ n
  unfolding lowest free
  length-lowest h = length-take-le n (free_sectors v) h

  -- a free sector is nobody's
  pub lowest_unowned : Facts v → clear (all_owned v) (lowest n v) ≡ true
  unfolding is_free owns
  lowest_unowned F =
      clear_by (all_owned v) (lowest n v) (λ u m.
      let below : u < sectors v = ltb-true _ _ (all-among (λ s. ltb s (sectors v)) (lowest n v) u lowest-inside m) in
      let open_at : marked (sat v) u ≡ false = not-true _ (all-among (is_free (sat v)) (lowest n v) u lowest_free m) in
      let is : marked (sat v) u ≡ owns (sectors v) (all_owned v) u = ap (λ (b : List ℕ). marked b u) F.sat_right
      ∙ marked-sat_of (sectors v) (all_owned v) u (omega (arith, F.high)) in
      or_right _ _ (sym is ∙ open_at))

-- no more than t different numbers are below t
other : ℕ → ℕ → Bool
other t x = not (eqb x t)

none_less : (t : ℕ) (xs : List ℕ) → among t xs ≡ false → length xs ≤ length (kept (other t) xs)
unfolding among kept other
none_less t [] h = omega arith
none_less t (x ∷ xs) h =
    let n : eqb x t ≡ false = ne_eqb x t (λ q. eqb-false t x (or_left _ _ h) (sym q)) in
    rw (kept, n) (omega (arith, none_less t xs (or_right _ _ h)))

one_less : (t : ℕ) (xs : List ℕ) → distinct xs ≡ true → length xs ≤ suc (length (kept (other t) xs))
unfolding distinct kept other
one_less t [] h = omega arith
one_less t (x ∷ xs) h = go (eqb x t) refl (one_less t xs (and_right _ _ h))
  where
    go : (b : Bool) → eqb x t ≡ b → length xs ≤ suc (length (kept (other t) xs)) → suc (length xs) ≤ suc (length (kept (other t) (x ∷ xs)))
    go true q g =
        let n : among t xs ≡ false = ap (λ (u : ℕ). among u xs) (sym (eqb-true x t q)) ∙ not-true _ (and_left _ _ h) in
        rw (kept, q) (omega (arith, none_less t xs n))
    go false q g = rw (kept, q) (omega arith)

pub below_few : (t : ℕ) (xs : List ℕ) → distinct xs ≡ true → inside t xs ≡ true → length xs ≤ t
unfolding all other
below_few zero [] d h = omega arith
below_few zero (x ∷ xs) d h = absurd (omega (arith, ltb-true x 0 (and_left _ _ h)))
below_few (suc t) xs d h =
    let ys : List ℕ = kept (other t) xs in
    let low : inside t ys ≡ true =
    all_ext (λ x. ltb x (suc t)) (other t) (λ x. ltb x t) ys
    (λ x a b. let n : x ≢ t = eqb-false x t (not-true _ b) in lt-ltb x t (lower x (ltb-true x (suc t) a) n))
    (all-kept (other t) (λ x. ltb x (suc t)) xs h) (kept_pass (other t) xs) in
    omega (arith, one_less t xs d, below_few t ys (distinct-kept (other t) xs d) low)
  where
    lower : (x : ℕ) → x < suc t → x ≢ t → x < t
    lower x a n = elim (dec_lt x t) [
      | yes l ↦ l
      | no g ↦ absurd (n (omega arith))
    ]
