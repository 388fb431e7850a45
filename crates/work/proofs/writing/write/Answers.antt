use mathlib.Core.Path.{sym, ◌∙◌}
use native.Mathlib.Omega.{arith}
use Rattle.work.proofs.TextRules.{text_asked, not_asked, contiguous_plain}
use Rattle.work.proofs.Writes.{plain_write}
use Rattle.work.proofs.writing.write.Goals as goal

pub write_run-requires : goal.write_run-requires
write_run-requires c =
    let pre = c.requires in
    (pre, sym (rw c.entry_of.ensures at c.contiguous.ensures) ∙ c.if-contiguous.true)

pub returns-then-contiguous : goal.returns-then-contiguous
returns-then-contiguous c =
    c.write_run.ensures
    ∙ plain_write _ _ _ _ _ (contiguous_plain _ _ (sym (rw c.entry_of.ensures at c.contiguous.ensures) ∙ c.if-contiguous.true))

pub as_text-requires : goal.as_text-requires
as_text-requires c =
    let pre = c.requires in
    (pre, sym (rw c.entry_of.ensures at c.contiguous.ensures) ∙ c.if-contiguous.false)

pub write_record-requires : goal.write_record-requires
write_record-requires c =
    let t = sym c.as_text.ensures ∙ c.if-as_text.true in
    (c.requires, sym (rw c.entry_of.ensures at c.contiguous.ensures) ∙ c.if-contiguous.false, rw (text_asked _ _ t) at t, omega arith)

pub returns-then-as_text : goal.returns-then-as_text
returns-then-as_text c =
    let t = sym c.as_text.ensures ∙ c.if-as_text.true in
    rw (text_asked _ _ t) c.write_record.ensures

pub write_record-requires-2 : goal.write_record-requires-2
write_record-requires-2 c = (c.requires, sym (rw c.entry_of.ensures at c.contiguous.ensures) ∙ c.if-contiguous.false, not_asked _, omega arith)

pub returns : goal.returns
returns c = c.write_record-2.ensures ∙ plain_write _ _ _ _ _ (sym c.as_text.ensures ∙ c.if-as_text.false)
