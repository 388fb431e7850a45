use mathlib.Core.Path.{sym, ◌∙◌}
use Rattle.files.proofs.slot.SlotInUse.{extent_run, extent_count}
use Rattle.files.proofs.extent.extent_of.Goals as goal

pub returns-then-contiguous : goal.returns-then-contiguous
returns-then-contiguous c =
    let q = c.entry_of-e.ensures in
    (rw q at c.size.ensures.0) ∙ sym (extent_run _ _ _ c.requires (sym (rw q at c.contiguous.ensures) ∙ c.if-contiguous.true))

pub returns-else-contiguous : goal.returns-else-contiguous
returns-else-contiguous c =
    let q = c.entry_of-e.ensures in
    (rw q at c.record_count.ensures.0) ∙ sym (extent_count _ _ _ c.requires (sym (rw q at c.contiguous.ensures) ∙ c.if-contiguous.false))
