-- The loop's invariant: the first k LUNs are those of the first k pieces.
use mathlib.Core.Path.{◌≡◌}
use mathlib.Core.List.{map}
use lib.ListN.{length, take}
use Rattle.numbers.specs.Numbers.{lun_count}
use Rattle.lists.specs.Lists.{pieces}
use Rattle.deskbytes.specs.DeskBytes.{unpacked_lun, lun_bytes}
use Rattle.deskbytes.proofs.unpack.Given as goal

abbrev pub invariant-loop-k : goal.invariant-loop-k
invariant-loop-k l = (length l.luns ≡ lun_count) × (take l.k l.luns ≡ map unpacked_lun (take l.k (pieces lun_count lun_bytes l.bytes)))
