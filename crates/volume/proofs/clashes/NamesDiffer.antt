-- Names that differ, one entry at a time.
use mathlib.Core.Bool.{Bool, not, true, false}
use mathlib.Core.List.{List}
use mathlib.Core.Path.{◌≡◌, refl}
use Prim.Native.Nat.{ℕ}
use Rattle.lists.specs.Lists.{all, ◌and◌}
use Rattle.lists.proofs.Walks.{all_yes}
use Rattle.volume.specs.Directory.{clashes, unused, described, named}
use Rattle.volume.proofs.clashes.EntryClashes.{unused_before}

-- the entry clashes with none of these
abbrev pub alone : List ℕ → List (List ℕ) → Bool
alone e ds = all (λ d. not (clashes e d)) ds

pub unused-alone : (e : List ℕ) (ds : List (List ℕ)) → unused e ≡ true → alone e ds ≡ true
unused-alone e ds z = all_yes (λ d. not (clashes e d)) ds (λ d. unused_before e d z)

-- two entries of which the first is used
module _ (e d : List ℕ) (u : unused e ≡ false) where
  pub clash_named : named (described e) d ≡ true → clashes e d ≡ not (unused d)
  unfolding clashes
  clash_named n = rw (u, n) (and-true (not (unused d)))
    where
      and-true : (b : Bool) → true and b and true ≡ b
      and-true true = unfold ◌and◌ in refl
      and-true false = unfold ◌and◌ in refl
