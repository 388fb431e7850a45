-- The loop's invariant: the bytes of the first k LUNs stand in front.
use mathlib.Core.Path.{◌≡◌}
use Prim.Native.Nat.{◌*◌}
use lib.ListN.{length, take}
use Rattle.lists.specs.Lists.{flat}
use Rattle.deskbytes.specs.DeskBytes.{packed_lun, desk_size, lun_bytes}
use Rattle.deskbytes.proofs.pack.Given as goal

abbrev pub invariant-loop-k : goal.invariant-loop-k
invariant-loop-k l = (length l.out ≡ desk_size) × (take (lun_bytes * l.k) l.out ≡ flat packed_lun (take l.k l.fn.luns))
