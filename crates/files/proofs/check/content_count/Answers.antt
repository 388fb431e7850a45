use mathlib.Core.Path.{sym, ◌∙◌}
use Rattle.files.specs.Code.Verdict.{content_of}
use Rattle.files.proofs.check.FileTails.{tail_within}
use Rattle.files.proofs.check.content_count.Goals as goal

pub walk-requires : goal.walk-requires
walk-requires c = tail_within _ _ c.args.stream.now.mapped _ c.requires

pub returns-then-tail_zero : goal.returns-then-tail_zero
unfolding content_of
returns-then-tail_zero c = c.walk.ensures ∙ rw (sym c.tail_zero.ensures ∙ c.if-tail_zero.true)

pub returns-else-tail_zero : goal.returns-else-tail_zero
unfolding content_of
returns-else-tail_zero c = rw (sym c.tail_zero.ensures ∙ c.if-tail_zero.false)
