-- Plain walks over lists: both, either, pieces, ranges, searches and tests. Defines no heading of RULES; the rules are said with them.
use Rattle.std.specs.Prelude.{Bool, true, false, not, List, [], ◌∷◌, ◌++◌, ℕ, zero, suc, ◌+◌, take, drop, eqb}

unfoldable pub ◌or◌ : Bool → Bool → Bool
true or b = true
false or b = b

-- Both, either. (Shut, so that a proof takes them apart by laws)
infixl 35 ◌and◌
infixl 30 ◌or◌
unfoldable pub ◌and◌ : Bool → Bool → Bool
true and b = b
false and b = false

-- k pieces of n bytes each
unfoldable pub pieces : ℕ → ℕ → List ℕ → List (List ℕ)
pieces zero n b = []
pieces (suc k) n b = take n b ∷ pieces k n (drop n b)

-- i, i + 1, ..: n numbers
unfoldable pub range : ℕ → ℕ → List ℕ
range i zero = []
range i (suc n) = i ∷ range (suc i) n

-- the lowest of the n numbers from i on at which p holds, or i + n
unfoldable pub first : (ℕ → Bool) → ℕ → ℕ → ℕ
first p i zero = i
first p i (suc n) = elim (p i) [ true ↦ i | false ↦ first p (suc i) n ]

-- the highest number below n at which p holds, or 0
unfoldable pub topmost : (ℕ → Bool) → ℕ → ℕ
topmost p zero = 0
topmost p (suc n) = elim (p n) [ true ↦ n | false ↦ topmost p n ]

-- p holds at each element, or at some; those at which it holds; the lists that f gives, one after the other
module _ {A : Type 0} where
  unfoldable pub all : (A → Bool) → List A → Bool
  all p [] = true
  all p (x ∷ xs) = p x and all p xs

  unfoldable pub some : (A → Bool) → List A → Bool
  some p [] = false
  some p (x ∷ xs) = p x or some p xs

  unfoldable pub kept : (A → Bool) → List A → List A
  kept p [] = []
  kept p (x ∷ xs) = elim (p x) [ true ↦ x ∷ kept p xs | false ↦ kept p xs ]

  unfoldable pub flat : {B : Type 0} → (A → List B) → List A → List B
  flat f [] = []
  flat f (x ∷ xs) = f x ++ flat f xs

  -- the lowest place at which p holds, or the list's length
  unfoldable pub index : (A → Bool) → List A → ℕ
  index p [] = 0
  index p (x ∷ xs) = elim (p x) [ true ↦ 0 | false ↦ suc (index p xs) ]

unfoldable pub among : ℕ → List ℕ → Bool
among x [] = false
among x (y ∷ ys) = eqb x y or among x ys

unfoldable pub distinct : List ℕ → Bool
distinct [] = true
distinct (x ∷ xs) = not (among x xs) and distinct xs

unfoldable pub same : List ℕ → List ℕ → Bool
same [] [] = true
same [] (y ∷ ys) = false
same (x ∷ xs) [] = false
same (x ∷ xs) (y ∷ ys) = eqb x y and same xs ys

abbrev pub sum : List ℕ → ℕ
sum [] = 0
sum (x ∷ xs) = x + sum xs

unfoldable pub lists_open : Unit {0}
unfolding ◌or◌ ◌and◌ pieces range first topmost all some kept flat index among distinct same
lists_open = tt
