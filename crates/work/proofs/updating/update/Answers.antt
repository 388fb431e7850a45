use mathlib.Core.Path.{sym, ◌∙◌}
use native.Mathlib.Omega.{arith}
use Rattle.work.proofs.TextRules.{text_asked, not_asked}
use Rattle.work.proofs.Updates.{update_contiguous, plain_update}
use Rattle.work.proofs.updating.update.Goals as goal

pub returns-then-contiguous : goal.returns-then-contiguous
returns-then-contiguous c = update_contiguous _ _ _ _ _ (sym (rw c.entry_of.ensures at c.contiguous.ensures) ∙ c.if-contiguous.true)

pub as_text-requires : goal.as_text-requires
as_text-requires c =
    let pre = c.requires in
    (pre, sym (rw c.entry_of.ensures at c.contiguous.ensures) ∙ c.if-contiguous.false)

pub update_coded-requires : goal.update_coded-requires
update_coded-requires c =
    let t = sym c.as_text.ensures ∙ c.if-as_text.true in
    (c.requires, sym (rw c.entry_of.ensures at c.contiguous.ensures) ∙ c.if-contiguous.false, rw (text_asked _ _ t) at t, omega arith)

pub returns-then-as_text : goal.returns-then-as_text
returns-then-as_text c =
    let t = sym c.as_text.ensures ∙ c.if-as_text.true in
    rw (text_asked _ _ t) c.update_coded.ensures

pub update_coded-requires-2 : goal.update_coded-requires-2
update_coded-requires-2 c = (c.requires, sym (rw c.entry_of.ensures at c.contiguous.ensures) ∙ c.if-contiguous.false, not_asked _, omega arith)

pub returns : goal.returns
returns c = c.update_coded-2.ensures ∙ plain_update _ _ _ _ _ (sym c.as_text.ensures ∙ c.if-as_text.false)
