-- Filenames as numbers: where those of two entries differ, the entries do not clash.
use mathlib.Core.Bool.{Bool, true, false, not, true≢false}
use mathlib.Core.List.{List, [], ◌∷◌, ◌++◌, map}
use mathlib.Core.Path.{◌≡◌, refl, ap, sym, ◌∙◌}
use Prim.Native.Nat.{ℕ, zero, suc, ◌+◌, ◌<◌, ◌≤◌}
use native.Mathlib.Numerals.{add-one}
use lib.Dec.{eqb}
use native.Mathlib.Omega.{arith}
use lib.ListN.{length, length-map, get_or, drop, drop_of_length-le}
use lib.Seq.{drop-cons}
use borrow.Author.Tests.{eq-eqb}
use Rattle.lists.specs.Lists.{all, among, ◌and◌, ◌or◌}
use Rattle.lists.proofs.Bools.{or-false}
use Rattle.lists.proofs.Lists.{same-true, get_or-map}
use Rattle.lists.proofs.Tests.{or_left, or_right, and_right, is_false, both_true}
use Rattle.volume.specs.Directory.{described, clashes, named, unused}
use Rattle.volume.specs.Code.Used.{file_number, file_numbers, used_entries}
use Rattle.volume.proofs.clashes.NamesDiffer.{alone}

number_of : List ℕ → ℕ
number_of e = file_number (described e)

clash_number : (e d : List ℕ) → clashes e d ≡ true → eqb (number_of e) (number_of d) ≡ true
unfolding clashes named number_of
clash_number e d c = eq-eqb _ _ (ap file_number (same-true (described e) (described d) (and_right _ _ c)))

pub numbers_alone : (e : List ℕ) (ds : List (List ℕ)) → among (file_number (described e)) (map (λ d. file_number (described d)) ds) ≡ false → alone e ds ≡ true
unfolding among all number_of
numbers_alone e [] h = refl
numbers_alone e (d ∷ ds) h =
    let no : clashes e d ≡ false = is_false (clashes e d) (λ c. true≢false (sym (clash_number e d c) ∙ or_left _ _ h)) in
    both_true _ _ (ap not no) (numbers_alone e ds (or_right _ _ h))

-- a number looked for in what is left of a list
module _ (x : ℕ) (xs : List ℕ) (i : ℕ) where
  pub occurs_more : i < length xs → (b : Bool) → b or among x (drop i xs) ≡ (b or eqb x (get_or xs i 0)) or among x (drop (i + 1) xs)
  unfolding among ◌or◌
  occurs_more h true = refl
  occurs_more h false = rw (drop-cons xs i 0 h, add-one i)

  pub occurs_end : length xs ≤ i → (b : Bool) → b or among x (drop i xs) ≡ b
  unfolding among
  occurs_end h b = rw (drop_of_length-le xs h) (or-false b)

drop-map : {A B : Type 0} (f : A → B) (n : ℕ) (xs : List A) → drop n (map f xs) ≡ map f (drop n xs)
drop-map f zero xs = refl
drop-map f (suc n) [] = refl
drop-map f (suc n) (x ∷ xs) = drop-map f n xs

pub used_clash : (e d : List ℕ) → unused e ≡ false → unused d ≡ false → clashes e d ≡ named (described e) d
unfolding clashes ◌and◌
used_clash e d u v = rw (u, v)

-- the numbers of a volume's entries in use: as many, the i-th, and where it does not come again
module _ (img : List ℕ) where
  pub length_numbers : length (file_numbers img) ≡ length (used_entries img)
  unfolding file_numbers
  length_numbers = length-map (used_entries img) _

  module _ (i : ℕ) (h : i < length (used_entries img)) where
    pub number_at : get_or (file_numbers img) i 0 ≡ file_number (described (get_or (used_entries img) i []))
    unfolding file_numbers
    number_at = get_or-map _ [] 0 (used_entries img) i h

    pub numbers_one : (x : ℕ) → x ≡ file_number (described (get_or (used_entries img) i []))
        → drop i (file_numbers img) ≡ (x ∷ []) ++ drop (i + 1) (file_numbers img)
    numbers_one x e = rw (drop-cons (file_numbers img) i 0 (omega (arith, length_numbers)), number_at, e, add-one i)

    pub numbers_later : among (get_or (file_numbers img) i 0) (drop (i + 1) (file_numbers img)) ≡ false
        → alone (get_or (used_entries img) i []) (drop (i + 1) (used_entries img)) ≡ true
    unfolding file_numbers
    numbers_later o =
        numbers_alone (get_or (used_entries img) i []) (drop (i + 1) (used_entries img))
        (ap (λ (x : ℕ). among x (map (λ d. file_number (described d)) (drop (i + 1) (used_entries img)))) (sym number_at)
        ∙ ap (among (get_or (file_numbers img) i 0)) (sym (drop-map (λ d. file_number (described d)) (i + 1) (used_entries img))) ∙ o)
