use native.Mathlib.Omega.{arith}
use Prim.Native.Nat.{◌<◌}
use borrow.Author.Rules.{rules}
use borrow.Author.Tests.{not-false}
use Rattle.deskbytes.proofs.LunBytes.{packed_held}
use Rattle.deskbytes.proofs.packed_lun.Goals as goal

pub returns : goal.returns
returns c =
    let i : c.first_of.result < 4294967296 = search rules in
    let p = c.first_of.ensures in
    packed_held c.args.u _ _ _ _ _ _ _ _ (not-false _ c.if-not-u.false) c.number.ensures c.count_of.ensures (search rules)
    (rw c.to_be_bytes-user.ensures (omega arith)) (rw c.to_be_bytes-user.ensures (omega arith))
    (rw c.to_be_bytes-i.ensures (omega arith)) (rw c.to_be_bytes-i.ensures (omega arith))
    (rw c.to_be_bytes-i.ensures (omega arith)) (rw c.to_be_bytes-i.ensures (omega arith))
