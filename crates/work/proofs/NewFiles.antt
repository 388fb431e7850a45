-- A new file's numbers, and the room that was found for it.
use mathlib.Core.Path.{◌≡◌, sym}
use mathlib.Core.Bool.{true, false}
use mathlib.Core.List.{List}
use Prim.Native.Nat.{ℕ, ◌≤◌, ◌<◌}
use native.Mathlib.Omega.{arith}
use lib.Dec.{leb}
use borrow.Author.Tests.{le-leb, lt-leb}
use Rattle.numbers.specs.Numbers.{most_sectors}
use Rattle.lists.specs.Lists.{some, index}
use Rattle.lists.specs.Parts.{sectors}
use Rattle.volume.specs.Names.{descriptor, user_of}
use Rattle.volume.specs.Directory.{entries, unused, code_allowed}
use Rattle.volume.specs.Sat.{lowest_run}
use Rattle.volume.specs.Code.Located.{Located}
use Rattle.volume.specs.declared.locate.Layout.{Layout}
use Rattle.files.specs.Changes.{taken}
use Rattle.files.specs.Files.{sound}
use Rattle.files.specs.Code.Room.{Room}
use Rattle.files.proofs.allocation.Allocatable.{Sized, sizes, run_of, records_of, allocatable}
use Rattle.files.proofs.allocation.RoomFound.{room}
use Rattle.work.specs.Volumes.{sized, exists}

-- how many sectors it takes
pub sized-taken : (k n l : ℕ) → sized k n l ≡ true → (1 ≤ taken k n) × (taken k n ≤ most_sectors)
unfolding sized taken
sized-taken k n l h = go (sizes k n l h)
  where
    go : Sized k n l → (1 ≤ taken k n) × (taken k n ≤ most_sectors)
    go (run_of a b c e) = rw a (b, c)
    go (records_of a b c) = rw a (omega arith, omega arith)

-- the lowest unused entry and the lowest run are room for it
module _ (img : List ℕ) (p : Layout) (desc : List ℕ) (k n l rc slot s : ℕ) where
  pub Room-found : Located img p → sound img ≡ true → descriptor desc ≡ true → exists img desc ≡ false → k ≤ 1 → sized k n l ≡ true
      → code_allowed (user_of desc) rc ≡ true → some unused (entries img) ≡ true → index unused (entries img) ≡ slot → s ≡ lowest_run (taken k n) img → s < p.t
      → Room img p slot desc k n l s
  unfolding exists sized
  Room-found h a b c e f g u is at low =
      rw (sym is, at)
      (room img p (index unused (entries img)) desc k n l rc (lowest_run (taken k n) img) h
      (allocatable img desc k n l rc a u b c e f g (omega (arith, at, low, h.is_t))))

-- there is a run exactly where the search stops inside
module _ (img : List ℕ) (p : Layout) (k n s : ℕ) (h : Located img p) (at : s ≡ lowest_run (taken k n) img) where
  pub no_run : p.t ≤ s → leb (sectors img) (lowest_run (taken k n) img) ≡ true
  no_run low = le-leb (sectors img) (lowest_run (taken k n) img) (omega (arith, at, low, h.is_t))

  pub some_run : s < p.t → leb (sectors img) (lowest_run (taken k n) img) ≡ false
  some_run low = lt-leb (sectors img) (lowest_run (taken k n) img) (omega (arith, at, low, h.is_t))
