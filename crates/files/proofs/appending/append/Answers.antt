use native.Mathlib.Omega.{arith}
use Rattle.files.proofs.appending.CountAdded.{added_in, added_small, added_is}
use Rattle.files.proofs.appending.append.Goals as goal

pub overflow_add-n : goal.overflow_add-n
overflow_add-n c =
    let a = c.args in
    omega (arith, (rw c.entry_of.ensures at c.record_count-n.ensures.0), added_small a.img.now a.p a.k a.r.now c.requires)

pub put_count-requires : goal.put_count-requires
put_count-requires c =
    let a = c.args in (
      added_in a.img.now a.p a.k a.r.now c.requires _ c.lengthen.ensures,
      omega (arith, (rw c.entry_of.ensures at c.record_count-n.ensures.0), added_small a.img.now a.p a.k a.r.now c.requires),
    )

pub returns : goal.returns
returns c =
    let a = c.args in
    added_is a.img.now a.p a.k a.r.now c.requires _ _ _ (rw c.entry_of.ensures at c.record_count-n.ensures.0)
    c.lengthen.ensures c.put_count.ensures
