-- A file that can be allocated: what allocate looks for and finds, as facts, and the numbers of the two kinds.
use Rattle.std.specs.Prelude.{if◌then◌else◌}
use mathlib.Core.Path.{◌≡◌, refl}
use mathlib.Core.Bool.{true, false, Bool}
use mathlib.Core.List.{List, []}
use Prim.Native.Nat.{ℕ, ◌+◌, ◌*◌, ◌≤◌, ◌<◌}
use native.Mathlib.Omega.{arith}
use lib.Dec.{eqb, leb}
use borrow.Author.Tests.{leb-true, eqb-true}
use Rattle.numbers.specs.Numbers.{record_limit, most_sectors}
use Rattle.lists.specs.Lists.{◌and◌, range, all, some, index}
use Rattle.lists.specs.Parts.{sectors}
use Rattle.lists.proofs.IndexFound.{some-index, index_holds}
use Rattle.lists.proofs.Tests.{and_left, and_right}
use Rattle.volume.specs.Names.{descriptor, user_of}
use Rattle.volume.specs.Volume.{dirs, sat}
use Rattle.volume.specs.Directory.{entries, entry_at, unused, named, code_allowed}
use Rattle.volume.specs.Sat.{is_free, lowest_run}
use Rattle.volume.proofs.RunFound.{run_fits, run_free}
use Rattle.volume.proofs.Slots.{length-entries}
use Rattle.files.specs.Files.{sound}
use Rattle.files.specs.Changes.{taken}

-- a file that can be allocated in slot at, from sector s on
pub record Allocatable (v : List ℕ) (at : ℕ) (d : List ℕ) (k n l rc s : ℕ) : Type 0 where
  pub is_sound : sound v ≡ true
  pub slot_in : at < 8 * dirs v
  pub slot_unused : unused (entry_at v at) ≡ true
  pub well_described : descriptor d ≡ true
  pub new_name : some (named d) (entries v) ≡ false
  pub known_kind : k ≤ 1
  pub numbers : (if eqb k 0 then leb 1 n and leb n most_sectors and eqb l 0 else eqb n 0 and leb l record_limit) ≡ true
  pub code_allowed : code_allowed (user_of d) rc ≡ true
  pub inside : s + taken k n ≤ sectors v
  pub all_free : all (is_free (sat v)) (range s (taken k n)) ≡ true

-- the lowest unused entry and the lowest run are such a place
pub allocatable : (v d : List ℕ) (k n l rc : ℕ) → sound v ≡ true → some unused (entries v) ≡ true → descriptor d ≡ true → some (named d) (entries v) ≡ false → k ≤ 1
    → (if eqb k 0 then leb 1 n and leb n most_sectors and eqb l 0 else eqb n 0 and leb l record_limit) ≡ true → code_allowed (user_of d) rc ≡ true
    → lowest_run (taken k n) v < sectors v → Allocatable v (index unused (entries v)) d k n l rc (lowest_run (taken k n) v)
unfolding entry_at
allocatable v d k n l rc h u hd new hk z a r = record {
  is_sound = h;
  slot_in = omega (arith, some-index unused (entries v) u, length-entries v);
  slot_unused = index_holds unused (entries v) [] (some-index unused (entries v) u);
  well_described = hd;
  new_name = new;
  known_kind = hk;
  numbers = z;
  code_allowed = a;
  inside = run_fits (taken k n) v r;
  all_free = run_free (taken k n) v r;
}

-- the numbers of the two kinds
pub data Sized (k n l : ℕ) : Type 0 where
  run_of : k ≡ 0 → 1 ≤ n → n ≤ most_sectors → l ≡ 0 → Sized k n l
  records_of : eqb k 0 ≡ false → n ≡ 0 → l ≤ record_limit → Sized k n l

pub sizes : (k n l : ℕ) → (if eqb k 0 then leb 1 n and leb n most_sectors and eqb l 0 else eqb n 0 and leb l record_limit) ≡ true → Sized k n l
sizes k n l z = by (eqb k 0) refl
  where
    by : (b : Bool) → eqb k 0 ≡ b → Sized k n l
    by true e =
        let q : leb 1 n and leb n most_sectors and eqb l 0 ≡ true = rw e at z in
        run_of (eqb-true _ _ e) (leb-true _ _ (and_left _ _ (and_left _ _ q))) (leb-true _ _ (and_right _ _ (and_left _ _ q))) (eqb-true _ _ (and_right _ _ q))
    by false e = let q : eqb n 0 and leb l record_limit ≡ true = rw e at z in records_of e (eqb-true _ _ (and_left _ _ q)) (leb-true _ _ (and_right _ _ q))
