use mathlib.Core.Path.{◌∙◌}
use native.Mathlib.Omega.{arith}
use Rattle.work.proofs.Writes.{record_past, record_there, record_next}
use Rattle.files.proofs.Bounds.{extent_few}
use Rattle.work.proofs.writing.write_stored.Goals as goal

pub returns-then-n-i : goal.returns-then-n-i
returns-then-n-i c = record_past _ _ _ _ _ c.requires.0.sequential (rw c.extent_of-n.ensures at c.if-n-i.true)

pub returns-then-i-n : goal.returns-then-i-n
returns-then-i-n c =
    record_there _ _ _ _ _ c.requires.0.sequential (rw c.extent_of-n.ensures at c.if-i-n.true)

pub write_next-requires : goal.write_next-requires
write_next-requires c = (
  omega (arith, c.if-n-i.false, c.extent_of-n.ensures, extent_few _ _ _ c.requires.0.file c.requires.0.sequential),
  c.requires.0,
  c.requires.1,
)

pub returns : goal.returns
returns c =
    c.write_next.ensures
    ∙ record_next _ _ _ _ _ c.requires.0.sequential
    (rw c.extent_of-n.ensures at c.if-n-i.false)
    (rw c.extent_of-n.ensures at c.if-i-n.false)
