-- A search over a list, one element at a time, and what it answers.
use mathlib.Core.Path.{◌≡◌, sym}
use mathlib.Core.Bool.{Bool, false}
use mathlib.Core.List.{List}
use Rattle.std.specs.List.{position}
use Prim.Native.Nat.{ℕ, suc, ◌+◌, ◌<◌}
use native.Mathlib.Numerals.{add-one}
use native.Mathlib.Nat.{zero-add}
use native.Mathlib.Omega.{arith}
use lib.ListN.{length, get_or, drop}
use lib.Seq.{drop-cons}
use Rattle.lists.specs.Lists.{index}
use Rattle.lists.proofs.Iterators.{index_is}
use Rattle.volume.specs.Code.Found.{found_of}

-- The search from i on finds what the whole search finds: what a loop that goes up keeps
module _ {A : Type 0} (p : A → Bool) (xs : List A) where
  abbrev pub From : ℕ → Type 0
  From i = index p xs ≡ i + index p (drop i xs)

  pub from_0 : From 0
  from_0 = sym (zero-add (index p xs))

  pub from_more : (d : A) (i : ℕ) → i < length xs → p (get_or xs i d) ≡ false → From i → From (i + 1)
  unfolding index
  from_more d i h e f =
      let s : index p (drop i xs) ≡ suc (index p (drop (i + 1) xs)) = rw (add-one, drop-cons xs i d h, index, e) in
      omega arith

-- the same in std's words: the place that `position` gives
module _ {A : Type 0} (p : A → Bool) where
  pub position_found : (xs : List A) (n : ℕ) → length xs ≡ n → position p xs ≡ found_of n (index p xs)
  unfolding found_of
  position_found xs n long = rw (index_is p xs, long)
