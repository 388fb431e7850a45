-- The slots in use as the code lists them, once a call, and their entries; and how many slots from one on are unused.
use Rattle.std.specs.Prelude.{true, false, not, List, [], ◌∷◌, map, ◌≡◌, ℕ, suc, ◌+◌, ◌*◌, ◌≤◌, ◌<◌}
use Rattle.lists.specs.Lists.{kept}
use Rattle.lists.specs.Parts.{long}
use Rattle.volume.specs.Directory.{unused, entries, entry_at, described}
use Rattle.volume.specs.Volume.{dirs}

-- the places in use in a list of entries, counted from k on
unfoldable pub places_from : ℕ → List (List ℕ) → List ℕ
places_from k [] = []
places_from k (e ∷ es) = elim (unused e) [ true ↦ places_from (suc k) es | false ↦ k ∷ places_from (suc k) es ]

unfoldable pub used_slots : List ℕ → List ℕ
used_slots img = places_from 0 (entries img)

unfoldable pub used_entries : List ℕ → List (List ℕ)
used_entries img = kept (λ e. not (unused e)) (entries img)

-- n slots from slot k on are unused; if n is 0, slot k is in use
pub record Gap (img : List ℕ) (k n : ℕ) : Type 0 where
  pub within : k + n ≤ 8 * dirs img
  pub none : (i : ℕ) → i < n → unused (entry_at img (k + i)) ≡ true
  pub taken : n ≡ 0 → unused (entry_at img k) ≡ false

-- the filename of a descriptor, its eight bytes as one number
unfoldable pub file_number : List ℕ → ℕ
file_number d = 4294967296 * long d 10 + long d 14

-- .. of each entry in use
unfoldable pub file_numbers : List ℕ → List ℕ
file_numbers img = map (λ e. file_number (described e)) (used_entries img)
