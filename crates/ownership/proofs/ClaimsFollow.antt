-- How claims follow one another.
use mathlib.Core.Path.{◌≡◌, refl, sym}
use mathlib.Core.Bool.{Bool, true, false, false≢true}
use mathlib.Core.List.{List, [], ◌∷◌, ◌++◌}
use Prim.Native.Nat.{ℕ, ◌<◌, ◌+◌, ◌≤◌}
use native.Mathlib.Numerals.{add-one}
use lib.ListN.{get_or, length, drop, drop_of_length-le}
use lib.Seq.{drop-cons}
use Rattle.lists.specs.Lists.{◌and◌, flat}
use Rattle.lists.proofs.Bools.{and_assoc}
use Rattle.volume.specs.Sat.{is_free, with_bit, with_bits}
use Rattle.volume.proofs.BitsSet.{with_bits-append}
use Rattle.ownership.specs.Code.Claims.{claim, Claims}

claim-append : (m xs ys : List ℕ) → claim m (xs ++ ys) ≡ claim m xs and claim (with_bits 1 m xs) ys
unfolding claim with_bits ◌and◌
claim-append m [] ys = refl
claim-append m (x ∷ xs) ys = rw (claim-append (with_bit 1 m x) xs ys) (sym (and_assoc (is_free m x) (claim (with_bit 1 m x) xs) (claim (with_bits 1 (with_bit 1 m x) xs) ys)))

-- nothing to claim
pub Claims-none : (m : List ℕ) → Claims [] m true m
unfolding claim with_bits
Claims-none m = record { answer = refl; marks = λ e. refl }

-- a second claim after one that was met; and a first that was not, whatever would follow
pub Claims-then : {r : Bool} {xs ys m m₁ m₂ : List ℕ} → Claims xs m true m₁ → Claims ys m₁ r m₂ → Claims (xs ++ ys) m r m₂
unfolding ◌and◌
Claims-then {r} {xs} {ys} {m} p q =
    let n = p.marks refl in
    record { answer = rw (claim-append m xs ys, ← p.answer, ← n) q.answer; marks = λ e. rw (with_bits-append 1 m xs ys, ← n) (q.marks e) }

pub Claims-fails : {xs m m₁ m₂ : List ℕ} (ys : List ℕ) → Claims xs m false m₁ → Claims (xs ++ ys) m false m₂
unfolding ◌and◌
Claims-fails {xs} {m} ys p = record { answer = rw (claim-append m xs ys, ← p.answer); marks = λ e. absurd (false≢true e) }

-- a turn of a loop over the owners of a list
module _ {A : Type 0} (owned : A → List ℕ) (xs : List A) (d : A) where
  abbrev pub Rest : ℕ → List ℕ → Bool → List ℕ → Type 0
  Rest i m r m' = Claims (flat owned (drop i xs)) m r m'

  pub flat_cons : (i : ℕ) → i < length xs → flat owned (drop i xs) ≡ owned (get_or xs i d) ++ flat owned (drop (i + 1) xs)
  unfolding flat
  flat_cons i h = rw (add-one i, drop-cons xs i d h)

  pub flat_end : (i : ℕ) → length xs ≤ i → flat owned (drop i xs) ≡ []
  unfolding flat
  flat_end i h = rw (drop_of_length-le xs h)

  pub Rest-more : {i : ℕ} {r : Bool} {m m₁ m₂ : List ℕ} → i < length xs → Claims (owned (get_or xs i d)) m true m₁ → Rest (i + 1) m₁ r m₂ → Rest i m r m₂
  Rest-more {i} h p q = rw (flat_cons i h) (Claims-then p q)

  pub Rest-fails : {i : ℕ} {m m₁ m₂ : List ℕ} → i < length xs → Claims (owned (get_or xs i d)) m false m₁ → Rest i m false m₂
  Rest-fails {i} h p = rw (flat_cons i h) (Claims-fails _ p)

  pub Rest-none : {i : ℕ} {m : List ℕ} → length xs ≤ i → Rest i m true m
  Rest-none {i} {m} h = rw (flat_end i h) (Claims-none m)
