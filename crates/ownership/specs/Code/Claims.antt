-- How the code finds a sector that is owned twice: over a table of the SAT's form, each owner marks what it owns and may find none marked.
use Rattle.std.specs.Prelude.{Bool, true, List, [], ◌∷◌, ◌≡◌, ℕ, replicate}
use Rattle.lists.specs.Lists.{◌and◌, range}
use Rattle.volume.specs.Sat.{is_free, with_bit, with_bits}

-- no sector of the list is marked before its turn, where each turn marks one
unfoldable pub claim : List ℕ → List ℕ → Bool
claim m [] = true
claim m (x ∷ xs) = is_free m x and claim (with_bit 1 m x) xs

-- an answer r and a table m' after the sectors xs were to be claimed over the table m
pub record Claims (xs m : List ℕ) (r : Bool) (m' : List ℕ) : Type 0 where
  pub answer : r ≡ claim m xs
  pub marks : r ≡ true → m' ≡ with_bits 1 m xs

-- the table to start from, free below t; RULES, The sector allocation table: the bits of numbers from T on are 1
unfoldable pub fresh : ℕ → List ℕ
fresh t = with_bits 0 (replicate 256 255) (range 0 t)
