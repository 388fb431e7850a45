-- Which entries clash: an unused one with none; and names still differ where an entry is replaced by one that clashes with none.
use mathlib.Core.Path.{◌≡◌, refl}
use mathlib.Core.Bool.{true, not, Bool, false}
use mathlib.Core.List.{List, [], ◌∷◌}
use Prim.Native.Nat.{ℕ, zero, suc}
use lib.ListN.{replicate, set}
use Rattle.lists.specs.Lists.{◌and◌, all}
use Rattle.lists.proofs.Tests.{both_true, and_left, and_right}
use Rattle.lists.proofs.Blanks.{all-replicate}
use Rattle.lists.proofs.JoinedLists.{all-set}
use Rattle.volume.specs.Directory.{unused, names_differ, clashes, described, named}

-- an unused entry clashes with none, and none with it
pub unused_before : (e d : List ℕ) → unused e ≡ true → not (clashes e d) ≡ true
unfolding clashes ◌and◌
unused_before e d z = rw z

pub names_replicate : (n : ℕ) (z : List ℕ) → unused z ≡ true → names_differ (replicate n z) ≡ true
unfolding names_differ
names_replicate zero z e = refl
names_replicate (suc n) z e = both_true _ _ (all-replicate _ n z (unused_before z z e)) (names_replicate n z e)

pub unused_after : (d e : List ℕ) → unused e ≡ true → not (clashes d e) ≡ true
unfolding clashes
unused_after d e z = go (not (unused d))
  where
    go : (b : Bool) → not (b and not (unused e) and named (described d) e) ≡ true
    go true = unfold ◌and◌ in (rw z)
    go false = unfold ◌and◌ in refl

-- one entry replaced by another that clashes with none of them, either way round
pub names_differ-set : (xs : List (List ℕ)) (k : ℕ) (e : List ℕ) → all (λ d. not (clashes e d)) xs ≡ true → all (λ d. not (clashes d e)) xs ≡ true
    → names_differ xs ≡ true → names_differ (set xs k e) ≡ true
unfolding names_differ all
names_differ-set [] k e a b h = refl
names_differ-set (x ∷ xs) zero e a b h = both_true _ _ (and_right _ _ a) (and_right _ _ h)
names_differ-set (x ∷ xs) (suc k) e a b h =
    both_true _ _ (all-set (λ d. not (clashes x d)) xs k e (and_left _ _ h) (and_left _ _ b)) (names_differ-set xs k e (and_right _ _ a) (and_right _ _ b) (and_right _ _ h))
