-- Names, descriptors and volume IDs. Defines RULES, Names and descriptors; Sector 0 (the ID).
use Rattle.std.specs.Prelude.{Bool, true, false, List, [], ◌∷◌, ℕ, leb, eqb, length}
use Rattle.numbers.specs.Numbers.{last_user}
use Rattle.lists.specs.Lists.{◌and◌, all, ◌or◌}
use Rattle.lists.specs.Parts.{word, part}

-- RULES, Names and descriptors: a name is a letter, then letters and digits, then nothing but spaces
unfoldable pub letter : ℕ → Bool
letter c = leb 65 c and leb c 90

unfoldable pub digit : ℕ → Bool
digit c = leb 48 c and leb c 57

abbrev pub spaces : List ℕ → Bool
spaces = all (λ c. eqb c 32)

unfoldable pub name_end : List ℕ → Bool
name_end [] = true
name_end (c ∷ cs) = (letter c or digit c) and name_end cs or spaces (c ∷ cs)

unfoldable pub name : List ℕ → Bool
name [] = false
name (c ∷ cs) = letter c and name_end cs

-- RULES, Names and descriptors: word 0 of a descriptor is the user
abbrev pub user_of : List ℕ → ℕ
user_of d = word d 0

-- RULES, Names and descriptors: a descriptor that is not bad, by its length, its user and its names
unfoldable pub descriptor : List ℕ → Bool
descriptor d =
    eqb (length d) 20 and leb (user_of d) last_user and (name (part 2 8 d) or spaces (part 2 8 d)) and name (part 10 8 d)
    and name (part 18 2 d)

-- RULES, Sector 0: the volume ID is a name of width 4: four bytes, the rest of them spaces
unfoldable pub volume_id : List ℕ → Bool
volume_id id = eqb (length id) 4 and name id

unfoldable pub names_open : Unit {0}
unfolding letter digit name_end name descriptor volume_id
names_open = tt
