use mathlib.Core.Path.{sym, ◌∙◌}
use native.Mathlib.Omega.{arith}
use Rattle.files.proofs.slot.SlotInUse.{used_run}
use Rattle.files.proofs.Bounds.{run_few}
use Rattle.work.proofs.TextRules.{text_asked, not_asked}
use Rattle.work.proofs.Readings.{run_read, plain_read}
use Rattle.work.proofs.reading.read.Goals as goal

pub read_run-requires : goal.read_run-requires
read_run-requires c =
    let u = c.requires in
    let runs = sym (rw c.entry_of-e.ensures at c.contiguous.ensures) ∙ c.if-contiguous.true in
    let s = (rw c.entry_of-e.ensures at c.start.ensures.0) in
    let n = (rw c.entry_of-e.ensures at c.size.ensures.0) in
    (omega (arith, run_few _ _ _ u runs, s, n), omega (arith, used_run _ _ _ u runs, s, n))

pub returns-then-contiguous : goal.returns-then-contiguous
returns-then-contiguous c =
    let runs = sym (rw c.entry_of-e.ensures at c.contiguous.ensures) ∙ c.if-contiguous.true in
    c.read_run.ensures
    ∙ rw ((rw c.entry_of-e.ensures at c.start.ensures.0), (rw c.entry_of-e.ensures at c.size.ensures.0))
    (run_read _ _ _ _ _ runs (used_run _ _ _ c.requires runs))

pub as_text-requires : goal.as_text-requires
as_text-requires c = (c.requires, sym (rw c.entry_of-e.ensures at c.contiguous.ensures) ∙ c.if-contiguous.false)

pub read_coded-requires : goal.read_coded-requires
read_coded-requires c =
    let t = sym c.as_text.ensures ∙ c.if-as_text.true in
    (c.requires, sym (rw c.entry_of-e.ensures at c.contiguous.ensures) ∙ c.if-contiguous.false, rw (text_asked _ _ t) at t)

pub returns-then-as_text : goal.returns-then-as_text
returns-then-as_text c =
    let t = sym c.as_text.ensures ∙ c.if-as_text.true in
    rw (text_asked _ _ t) c.read_coded.ensures

pub read_coded-requires-2 : goal.read_coded-requires-2
read_coded-requires-2 c = (c.requires, sym (rw c.entry_of-e.ensures at c.contiguous.ensures) ∙ c.if-contiguous.false, not_asked _)

pub returns : goal.returns
returns c = c.read_coded-2.ensures ∙ plain_read _ _ _ _ _ (sym c.as_text.ensures ∙ c.if-as_text.false)
