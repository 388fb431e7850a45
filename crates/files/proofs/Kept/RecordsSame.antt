-- A file that is as it was has the stream, the records and the extent that it had, and its record count is as right as it was.
use Rattle.std.specs.Prelude.{if◌then◌else◌}
use mathlib.Core.Path.{◌≡◌, refl}
use mathlib.Core.Bool.{Bool, true, false}
use mathlib.Core.List.{List}
use Prim.Native.Nat.{ℕ}
use lib.ListN.{length}
use Rattle.lists.specs.Lists.{◌or◌}
use Rattle.volume.specs.Directory.{unused, contiguous, size}
use Rattle.files.specs.Files.{stream, records, extent, records_in, count_is}
use Rattle.files.proofs.Kept.FileSame.{Same}

-- its stream, its records and its extent, if it is sequential or not
module _ (v v' e : List ℕ) (s : Same v v' e) (u : unused e ≡ false) where
  pub stream_same : contiguous e ≡ false → stream v' e ≡ stream v e
  unfolding stream
  stream_same q = rw (s.block_same u q, s.stored_same)

  pub records_same : contiguous e ≡ false → records v' e ≡ records v e
  unfolding records
  records_same q = rw (stream_same q)

  pub extent_same : extent v' e ≡ extent v e
  unfolding extent
  extent_same = go (contiguous e) refl
    where
      go : (b : Bool) → contiguous e ≡ b → (if contiguous e then size e else length (records v' e)) ≡ (if contiguous e then size e else length (records v e))
      go true q = rw q
      go false q = rw (q, records_same q)

pub count_Same : (v v' e : List ℕ) → Same v v' e → count_is (records_in v') e ≡ count_is (records_in v) e
unfolding count_is records_in ◌or◌
count_Same v v' e s = go (unused e) (contiguous e) refl refl
  where
    go : (a b : Bool) → unused e ≡ a → contiguous e ≡ b → count_is (records_in v') e ≡ count_is (records_in v) e
    go true b u c = rw u
    go false true u c = rw (u, c)
    go false false u c = rw (records_same v v' e s u c)
