use mathlib.Core.Path.{◌∙◌}
use Prim.Native.Nat.{◌+◌, ◌*◌}
use native.Mathlib.Omega.{arith}
use lib.ListN.{length}
use Rattle.lists.proofs.LentParts.{wrote}
use Rattle.files.specs.Changes.{overwritten}
use Rattle.files.proofs.slot.SlotInUse.{used_run}
use Rattle.files.proofs.replace.overwrite.Goals as goal

pub overflow_add-at : goal.overflow_add-at
overflow_add-at c =
    let pre = c.requires in
    omega (
      arith,
      (rw c.entry_of.ensures at c.start.ensures.0),
      used_run _ _ _ pre.0 pre.1,
      pre.2,
    )

pub overflow_mul-at : goal.overflow_mul-at
overflow_mul-at c =
    let pre = c.requires in
    omega (
      arith,
      (rw c.entry_of.ensures at c.start.ensures.0),
      used_run _ _ _ pre.0 pre.1,
      pre.2,
    )

pub overflow_add-at-2 : goal.overflow_add-at-2
overflow_add-at-2 c =
    let pre = c.requires in
    omega (
      arith,
      (rw c.entry_of.ensures at c.start.ensures.0),
      used_run _ _ _ pre.0 pre.1,
      pre.2,
    )

pub slice_bounds-copy_from_slice-end : goal.slice_bounds-copy_from_slice-end
slice_bounds-copy_from_slice-end c =
    let pre = c.requires in
    omega (
      arith,
      (rw c.entry_of.ensures at c.start.ensures.0),
      used_run _ _ _ pre.0 pre.1,
      pre.2,
    )

pub returns : goal.returns
unfolding overwritten
returns c =
    let a = c.args in
    let at = 256 * (c.start.result + a.i) in
    wrote at (at + length a.src.now) a.img.now _ a.src.now (omega arith) c.copy_from_slice.ensures.after (omega arith)
    ∙ rw (c.start.ensures.0, c.entry_of.ensures)
