use mathlib.Core.Path.{◌∙◌}
use Rattle.records.proofs.StreamWrites.{encoded_fixed}
use Rattle.records.proofs.encoding.write_record.Goals as goal

pub write_variable-requires : goal.write_variable-requires
write_variable-requires c = (c.requires.0, c.requires.1, rw c.if-l-eq0.true at c.requires.2)

pub returns-then-l-eq0 : goal.returns-then-l-eq0
returns-then-l-eq0 c = c.write_variable.ensures ∙ rw c.if-l-eq0.true

pub write_stream-requires : goal.write_stream-requires
write_stream-requires c =
    (c.requires.0.mapped, c.requires.0.once, rw (encoded_fixed _ _ c.if-l-eq0.false) at c.requires.2)

pub returns : goal.returns
returns c = c.write_stream.ensures ∙ rw (encoded_fixed _ _ c.if-l-eq0.false)
