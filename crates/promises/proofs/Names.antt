-- A volume ID is bytes.
use mathlib.Core.Path.{◌≡◌, refl}
use mathlib.Core.Bool.{true, Bool, false}
use mathlib.Core.List.{List, ◌∷◌, []}
use Prim.Native.Nat.{ℕ, ◌≤◌, ◌<◌, zero, suc}
use native.Mathlib.Omega.{arith}
use lib.Dec.{eqb}
use borrow.Author.Tests.{leb-true, eqb-true}
use Rattle.lists.specs.Lists.{◌or◌, ◌and◌}
use Rattle.lists.proofs.Tests.{and_right, or_cases, and_left}
use Rattle.lists.proofs.Lists.{all_head, all_tail}
use Rattle.volume.specs.Names.{letter, digit, spaces, name_end, name, volume_id}
use Rattle.promises.specs.Sectors.{Bytes}

letter_small : (c : ℕ) → letter c ≡ true → c < 256
unfolding letter
letter_small c h = let x : c ≤ 90 = leb-true _ _ (and_right _ _ h) in omega arith

digit_small : (c : ℕ) → digit c ≡ true → c < 256
unfolding digit
digit_small c h = let x : c ≤ 57 = leb-true _ _ (and_right _ _ h) in omega arith

alnum_small : (c : ℕ) → letter c or digit c ≡ true → c < 256
alnum_small c h = go (letter c) refl
  where
    go : (b : Bool) → letter c ≡ b → c < 256
    go true q = letter_small c q
    go false q = digit_small c (or_cases _ _ h q)

cons-Bytes : (c : ℕ) (s : List ℕ) → c < 256 → Bytes s → Bytes (c ∷ s)
cons-Bytes c s h b zero = h
cons-Bytes c s h b (suc i) = b i

none_Bytes : Bytes []
none_Bytes i = omega arith

spaces-Bytes : (s : List ℕ) → spaces s ≡ true → Bytes s
spaces-Bytes [] h = none_Bytes
spaces-Bytes (c ∷ s) h =
    let x : c ≡ 32 = eqb-true _ _ (all_head (λ c. eqb c 32) c s h) in
    cons-Bytes c s (omega arith) (spaces-Bytes s (all_tail (λ c. eqb c 32) c s h))

end_Bytes : (s : List ℕ) → name_end s ≡ true → Bytes s
unfolding name_end
end_Bytes [] h = none_Bytes
end_Bytes (c ∷ s) h = go ((letter c or digit c) and name_end s) refl (λ q. end_Bytes s q)
  where
    go : (b : Bool) → ((letter c or digit c) and name_end s) ≡ b → (name_end s ≡ true → Bytes s) → Bytes (c ∷ s)
    go true q f = cons-Bytes c s (alnum_small c (and_left _ _ q)) (f (and_right _ _ q))
    go false q f = spaces-Bytes (c ∷ s) (or_cases _ _ h q)

name-Bytes : (s : List ℕ) → name s ≡ true → Bytes s
unfolding name
name-Bytes [] h = none_Bytes
name-Bytes (c ∷ s) h = cons-Bytes c s (letter_small c (and_left _ _ h)) (end_Bytes s (and_right _ _ h))

pub id_Bytes : (id : List ℕ) → volume_id id ≡ true → Bytes id
unfolding volume_id
id_Bytes id h = name-Bytes id (and_right _ _ h)
