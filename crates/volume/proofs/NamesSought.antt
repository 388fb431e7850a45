-- The search for a name, entry by entry: what is left finds what the whole search finds.
use Rattle.std.proofs.Common.{◌≡◌, ℕ, ◌+◌, ◌<◌, ◌≤◌, List, [], ◌∷◌, length, drop, Bool, true, false, get_or, Option, Some, None, position, refl}
use Rattle.std.specs.List.{position_from}
use Rattle.std.proofs.lemmas.List.{drop_more, drop_all}

-- the place of the first from n on
abbrev pub left : (List ℕ → Bool) → ℕ → List (List ℕ) → Option ℕ
left p n xs = position_from p n (drop n xs)

pub passed : (p : List ℕ → Bool) (n : ℕ) (xs : List (List ℕ)) (d : List ℕ) → n < length xs → p (get_or xs n d) ≡ false → left p n xs ≡ left p (n + 1) xs
passed p n xs d h e = rw (drop_more xs n d h, e) refl

pub here : (p : List ℕ → Bool) (n : ℕ) (xs : List (List ℕ)) (d : List ℕ) → n < length xs → p (get_or xs n d) ≡ true → left p n xs ≡ Some n
here p n xs d h e = rw (drop_more xs n d h, e) refl

pub at_end : (p : List ℕ → Bool) (n : ℕ) (xs : List (List ℕ)) → length xs ≤ n → left p n xs ≡ None
at_end p n xs h = rw (drop_all n xs h) refl
