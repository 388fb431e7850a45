-- The picture drawn over a lent list, one sector after the other; and what is drawn of any bytes.
use Rattle.std.specs.Prelude.{if◌then◌else◌}
use mathlib.Core.Path.{◌≡◌, refl, ◌∙◌}
use mathlib.Core.Bool.{true, false}
use mathlib.Core.List.{List, [], ◌∷◌, ◌++◌, map, map-append}
use Prim.Native.Nat.{ℕ, ◌+◌, ◌<◌}
use native.Mathlib.Omega.{arith}
use native.Mathlib.Nat.{zero-add}
use lib.ListN.{length, set, length-map}
use Rattle.lists.specs.Lists.{range}
use Rattle.lists.specs.Parts.{sectors, over, put}
use Rattle.lists.proofs.Fronts.{Placed, Placed-none, Placed-next}
use Rattle.lists.proofs.Ranges.{length-range, range_snoc}
use Rattle.volume.specs.declared.locate.Layout.{Layout}
use Rattle.volume.specs.Code.Located.{Located}
use Rattle.files.specs.Files.{sound}
use Rattle.picture.specs.Picture.{sector_letter, picture, drawn}

-- the letters of the first n sectors
unfoldable pub letters : List ℕ → ℕ → List ℕ
letters img n = map (sector_letter img) (range 0 n)

length-letters : (img : List ℕ) (n : ℕ) → length (letters img n) ≡ n
unfolding letters
length-letters img n = length-map (range 0 n) (sector_letter img) ∙ length-range 0 n

pub drawn_none : (img o : List ℕ) → Placed 0 (letters img 0) o o 0
unfolding letters range
drawn_none img o = Placed-none 0 (letters img 0) o refl

letters_more : (img : List ℕ) (n b : ℕ) → b ≡ sector_letter img n → letters img (n + 1) ≡ letters img n ++ (b ∷ [])
unfolding letters
letters_more img n b e = rw (range_snoc 0 n, zero-add n, e) (map-append (sector_letter img) (range 0 n) (n ∷ []))

pub drawn_more : (img o out : List ℕ) (n b : ℕ) → b ≡ sector_letter img n → n < length o → Placed 0 (letters img n) o out n → Placed 0 (letters img (n + 1)) o (set out n b) (n + 1)
drawn_more img o out n b e h w =
    Placed-next 0 n b (letters img n) (letters img (n + 1)) o out w (letters_more img n b e) (omega (arith, length-letters img (n + 1)))

pub drawn_all : (img o out : List ℕ) (n : ℕ) → n ≡ sectors img → Placed 0 (letters img n) o out n → out ≡ over (picture img) o
unfolding letters picture over put
drawn_all img o out n e w = w.1 ∙ rw (e, zero-add)

-- the answer, and what stands in the lent list
module _ (img : List ℕ) where
  pub answer_no : (o : List ℕ) → sound img ≡ false → (0 ≡ (if sound img then sectors img else 0)) × (o ≡ drawn img o)
  unfolding drawn
  answer_no o h = rw h (refl, refl)

  pub answer_yes : (p : Layout) (o out : List ℕ) → sound img ≡ true → Located img p → out ≡ over (picture img) o
      → (p.t ≡ (if sound img then sectors img else 0)) × (out ≡ drawn img o)
  unfolding drawn
  answer_yes p o out h L d = rw h (L.is_t, d)
