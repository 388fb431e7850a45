-- Names, one byte at a time.
use mathlib.Core.Path.{◌≡◌, refl, ap}
use mathlib.Core.Bool.{Bool, true, false}
use mathlib.Core.List.{List, ◌∷◌, []}
use Prim.Native.Nat.{ℕ, ◌≤◌, suc, ◌+◌, ◌<◌}
use native.Mathlib.Omega.{arith}
use native.Mathlib.Numerals.{add-one}
use lib.Dec.{eqb, leb}
use lib.ListN.{length, get_or, drop, drop_of_length-le}
use lib.Seq.{drop-cons}
use borrow.Author.Tests.{leb-true, ne_eqb, eq-eqb}
use Rattle.numbers.specs.Numbers.{last_user}
use Rattle.lists.specs.Lists.{◌or◌, ◌and◌, all}
use Rattle.lists.specs.Parts.{word, part}
use Rattle.lists.proofs.Tests.{and_left, or_cases}
use Rattle.lists.proofs.Bools.{or-false}
use Rattle.volume.specs.Names.{letter, digit, name_end, spaces, name, descriptor}

-- a letter or digit is no space
no_space : (c : ℕ) → letter c or digit c ≡ true → eqb c 32 ≡ false
no_space c h = go (letter c) refl
  where
    go : (b : Bool) → letter c ≡ b → eqb c 32 ≡ false
    go true e = unfold letter in (ne_eqb c 32 (λ q. let z : 65 ≤ c = leb-true 65 c (and_left _ _ e) in omega arith))
    go false e = unfold digit in (ne_eqb c 32 (λ q. let z : 48 ≤ c = leb-true 48 c (and_left _ _ (or_cases (letter c) (digit c) h e)) in omega arith))

end_yes : (c : ℕ) (cs : List ℕ) → letter c or digit c ≡ true → name_end (c ∷ cs) ≡ name_end cs
unfolding name_end all ◌and◌
end_yes c cs h = rw (h, no_space c h) (or-false (name_end cs))

end_no : (c : ℕ) (cs : List ℕ) → letter c or digit c ≡ false → name_end (c ∷ cs) ≡ spaces (c ∷ cs)
unfolding name_end
end_no c cs h = rw h (none (name_end cs) (spaces (c ∷ cs)))
  where
    none : (a b : Bool) → false and a or b ≡ b
    none a b = unfold ◌and◌ ◌or◌ in refl

module _ (s : List ℕ) (i : ℕ) (h : i < length s) where
  pub end_more : letter (get_or s i 0) or digit (get_or s i 0) ≡ true → name_end (drop i s) ≡ name_end (drop (i + 1) s)
  end_more e = rw (add-one, drop-cons s i 0 h) (end_yes (get_or s i 0) (drop (suc i) s) e)

  pub end_stop : letter (get_or s i 0) or digit (get_or s i 0) ≡ false → name_end (drop i s) ≡ spaces (drop i s)
  end_stop e = rw (drop-cons s i 0 h) (end_no (get_or s i 0) (drop (suc i) s) e)

pub end_end : (s : List ℕ) (i : ℕ) → length s ≤ i → name_end (drop i s) ≡ true
unfolding name_end
end_end s i h = rw (drop_of_length-le s h)

pub name_is : (s : List ℕ) → 0 < length s → name s ≡ letter (get_or s 0 0) and name_end (drop 1 s)
unfolding name
name_is s h = ap name (drop-cons s 0 0 h)

pub name_none : (s : List ℕ) → length s ≡ 0 → name s ≡ false
unfolding name
name_none [] h = refl
name_none (c ∷ cs) h = absurd (omega arith)

-- the tests of a descriptor of 20 bytes, of any other length
module _ (d : List ℕ) where
  pub descriptor_is : length d ≡ 20
      → descriptor d ≡ leb (word d 0) last_user and ((name (part 2 8 d) or spaces (part 2 8 d)) and name (part 10 8 d) and name (part 18 2 d))
  unfolding descriptor
  descriptor_is h =
      rw (eq-eqb (length d) 20 h) (true-and (leb (word d 0) last_user) (name (part 2 8 d) or spaces (part 2 8 d)) (name (part 10 8 d)) (name (part 18 2 d)))
    where
      true-and : (w x y z : Bool) → true and w and x and y and z ≡ w and (x and y and z)
      true-and true x y z = unfold ◌and◌ in refl
      true-and false x y z = unfold ◌and◌ in refl

  pub descriptor_not : (length d ≡ 20 → ⊥) → descriptor d ≡ false
  unfolding descriptor ◌and◌
  descriptor_not h = rw (ne_eqb (length d) 20 h)
