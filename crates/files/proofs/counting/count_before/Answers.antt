use mathlib.Core.Path.{sym, ◌∙◌}
use native.Mathlib.Omega.{arith}
use Rattle.files.proofs.check.FileVerdicts.{before_none, before_run, before_bad, before_records}
use Rattle.files.proofs.counting.count_before.Goals as goal
use Rattle.files.proofs.counting.count_before.Goals.{then-unused-via-then-unused, then-unused-via-else-unused+then-contiguous}

pub returns-then-unused : goal.returns-then-unused
returns-then-unused c = elim c.then-unused.branch [
  | then-unused-via-then-unused w ↦ before_none _ _ (sym c.unused.ensures ∙ w.if-unused.true)
  | then-unused-via-else-unused+then-contiguous w ↦ before_run _ _ (sym c.unused.ensures ∙ w.if-unused.false) (sym w.contiguous.ensures ∙ w.if-contiguous.true)
]

pub returns-then-record_count-ne0 : goal.returns-then-record_count-ne0
returns-then-record_count-ne0 c =
    before_bad _ _ (sym c.unused.ensures ∙ c.if-unused.false) (sym c.contiguous.ensures ∙ c.if-contiguous.false)
    (λ q. c.if-record_count-ne0.true (c.record_count.ensures.0 ∙ q))

pub returns : goal.returns
returns c =
    let z = c.record_count.ensures.0 in
    c.stream_count.ensures
    ∙ rw (c.start.ensures.0, c.record_length.ensures.0)
    (before_records _ _ (sym c.unused.ensures ∙ c.if-unused.false) (sym c.contiguous.ensures ∙ c.if-contiguous.false)
    (omega (arith, z, c.if-record_count-ne0.false)))
