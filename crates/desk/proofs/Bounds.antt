-- What a volume holds is counted in 32 bits: a file's records or sectors, and free sectors.
use Rattle.std.specs.Prelude.{if◌then◌else◌}
use mathlib.Core.Path.{◌≡◌, refl}
use mathlib.Core.Bool.{Bool, true, false}
use mathlib.Core.List.{List, [], ◌∷◌}
use Prim.Native.Nat.{ℕ, suc, ◌≤◌, ◌<◌}
use native.Mathlib.Omega.{arith}
use lib.ListN.{length}
use Rattle.numbers.specs.Numbers.{most_sectors}
use Rattle.lists.specs.Lists.{range, kept}
use Rattle.lists.specs.Parts.{sectors}
use Rattle.lists.proofs.Ranges.{length-range}
use Rattle.volume.specs.Volume.{sat}
use Rattle.volume.specs.Sat.{is_free, free_sectors, free}
use Rattle.volume.specs.Directory.{entry_at, contiguous}
use Rattle.volume.specs.declared.locate.Layout.{Layout}
use Rattle.files.specs.Files.{extent, sound}
use Rattle.files.specs.Code.Verdict.{checked_of}
use Rattle.files.specs.Code.Slots.{InUse}
use Rattle.files.proofs.SoundFacts.{facts}
use Rattle.files.proofs.slot.SlotInUse.{extent_run}
use Rattle.files.proofs.Bounds.{run_few, extent_few}

pub extent_small : (img : List ℕ) (p : Layout) (k : ℕ) → InUse img p k → extent img (entry_at img k) < 4294967296
extent_small img p k u = go (contiguous (entry_at img k)) refl
  where
    go : (b : Bool) → contiguous (entry_at img k) ≡ b → extent img (entry_at img k) < 4294967296
    go true c = omega (arith, extent_run img p k u c, run_few img p k u c)
    go false c = omega (arith, extent_few img p k u c)

-- there are no more free sectors than sectors
kept_few : (p : ℕ → Bool) (xs : List ℕ) → length (kept p xs) ≤ length xs
unfolding kept
kept_few p [] = omega arith
kept_few p (x ∷ xs) = go (p x) refl (kept_few p xs)
  where
    go : (b : Bool) → p x ≡ b → length (kept p xs) ≤ length xs → length {A = ℕ} (elim b [ true ↦ x ∷ kept p xs | false ↦ kept p xs ]) ≤ suc (length xs)
    go true e h = omega arith
    go false e h = omega arith

free_few : (img : List ℕ) → sound img ≡ true → free img ≤ most_sectors
unfolding free free_sectors
free_few img s = omega (arith, kept_few (is_free (sat img)) (range 0 (sectors img)), length-range 0 (sectors img), (facts img s).high)

pub check_few : (img : List ℕ) → (checked_of img).free ≤ most_sectors
unfolding checked_of
check_few img = go (sound img) refl
  where
    go : (b : Bool) → sound img ≡ b → (if b then free img else 0) ≤ most_sectors
    go true e = free_few img e
    go false e = omega arith
