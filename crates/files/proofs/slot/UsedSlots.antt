-- Slots in use: none lies past the entries, and an entry that has a descriptor's name is one.
use mathlib.Core.Path.{◌≡◌, ap, sym, ◌∙◌, refl}
use mathlib.Core.Bool.{false, true≢false, true}
use mathlib.Core.List.{List, [], ◌∷◌}
use Prim.Native.Nat.{ℕ, ◌*◌, ◌≤◌, ◌<◌, zero, suc}
use native.Mathlib.Decide.{dec_lt}
use native.Mathlib.Omega.{arith}
use lib.ListN.{length, get_or-eq_default, get_or, take, drop}
use lib.Seq.{drop-cons, get_or-take, get_or-drop}
use borrow.Author.Tests.{eqb-true, leb-true}
use Rattle.lists.specs.Lists.{all}
use Rattle.lists.specs.Parts.{zeros, part}
use Rattle.lists.proofs.Tests.{and_left, and_right, is_false}
use Rattle.lists.proofs.Lists.{same-true}
use Rattle.volume.specs.Volume.{dirs}
use Rattle.volume.specs.Directory.{entries, entry_at, unused, described, named}
use Rattle.volume.specs.Names.{letter, name, descriptor}
use Rattle.volume.proofs.EntryFields.{descriptor-length}
use Rattle.volume.proofs.Slots.{length-entries}

-- past the entries there is nothing in use
pub used_slot : (v : List ℕ) (i : ℕ) → unused (entry_at v i) ≡ false → i < 8 * dirs v
unfolding entry_at all
used_slot v i u = elim (dec_lt i (8 * dirs v)) [
  | yes h ↦ h
  | no h ↦
      let n : length (entries v) ≤ i = omega (arith, length-entries v) in
      absurd (true≢false (sym (ap unused (get_or-eq_default (entries v) [] n)) ∙ u))
]

zeros_at : (l : List ℕ) (i : ℕ) → zeros l ≡ true → get_or l i 0 ≡ 0
unfolding all
zeros_at [] i h = refl
zeros_at (x ∷ l) zero h = eqb-true x 0 (and_left _ _ h)
zeros_at (x ∷ l) (suc i) h = zeros_at l i (and_right _ _ h)

-- a descriptor's filename starts with a letter, so that no unused entry has its name
starts : (d : List ℕ) → descriptor d ≡ true → 65 ≤ get_or d 10 0
unfolding descriptor part name letter
starts d h =
    let n : name (take 8 (drop 10 d)) ≡ true = and_right _ _ (and_left _ _ h) in
    let m : name (take 8 (get_or d 10 0 ∷ drop 11 d)) ≡ true = rw (drop-cons d 10 0 (omega (arith, descriptor-length d h))) at n in
    leb-true _ _ (and_left _ _ (and_left _ _ m))

pub named_used : (d e : List ℕ) → descriptor d ≡ true → named d e ≡ true → unused e ≡ false
unfolding named described part
named_used d e hd h =
    is_false (unused e) (λ u.
    let z : get_or d 10 0 ≡ 0 = ap (λ (l : List ℕ). get_or l 10 0) (same-true _ _ h) ∙ get_or-take 20 (drop 2 e) 10 0 (omega arith) ∙ get_or-drop 2 e 10 0 ∙ zeros_at e 12 u in
    omega (arith, starts d hd))
