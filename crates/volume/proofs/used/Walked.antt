-- The entries in use walked by their ranks.
use Rattle.std.proofs.Common.{◌≡◌, ℕ, zero, suc, ◌+◌, ◌<◌, List, [], ◌∷◌, length, get_or, drop, Bool, sym, arith, ap, ◌∙◌, add-one}
use Rattle.std.specs.List.{list_all, range_with_len}
use lib.ListN.{drop_of_length-le}
use lib.Seq.{drop-cons}
use Rattle.lists.specs.Lists.{all}
use Rattle.lists.proofs.Bools.{and_is}
use Rattle.volume.specs.Directory.{names_differ}
use Rattle.volume.proofs.clashes.NamesDiffer.{alone}

next : (xs : List (List ℕ)) (a : ℕ) → a < length xs → drop a xs ≡ get_or xs a [] ∷ drop (a + 1) xs
next xs a h = drop-cons xs a [] h ∙ ap (λ (m : ℕ). get_or xs a [] ∷ drop m xs) (sym (add-one a))

-- all entries from the one of rank a on
module _ (q : ℕ → Bool) (p : List ℕ → Bool) (xs : List (List ℕ)) (at : (i : ℕ) → i < length xs → q i ≡ p (get_or xs i [])) where
  pub all_walked : (n a : ℕ) → a + n ≡ length xs → list_all q (range_with_len a n) ≡ all p (drop a xs)
  unfolding all
  all_walked zero a h = let z : drop a xs ≡ [] = drop_of_length-le xs (omega arith) in rw z
  all_walked (suc n) a h = rw (next xs a (omega arith), and_is, at a (omega arith), all_walked n (a + 1) (omega arith))

-- and that no two of them clash
module _ (q : ℕ → Bool) (xs : List (List ℕ)) (at : (i : ℕ) → i < length xs → q i ≡ alone (get_or xs i []) (drop (i + 1) xs)) where
  pub differ_walked : (n a : ℕ) → a + n ≡ length xs → list_all q (range_with_len a n) ≡ names_differ (drop a xs)
  unfolding names_differ
  differ_walked zero a h = let z : drop a xs ≡ [] = drop_of_length-le xs (omega arith) in rw z
  differ_walked (suc n) a h = rw (next xs a (omega arith), and_is, at a (omega arith), differ_walked n (a + 1) (omega arith))
