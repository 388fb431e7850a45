use mathlib.Core.Path.{sym, ◌∙◌}
use native.Mathlib.Omega.{arith}
use borrow.Author.Tests.{le-leb, lt-leb}
use Rattle.work.specs.Refusals.{ruled}
use Rattle.work.specs.Code.Deeds.{done_by}
use Rattle.work.specs.Code.Runs.{read_run, ran_read}
use Rattle.work.proofs.reading.read_run.Goals as goal

pub returns-then-odd_length : goal.returns-then-odd_length
unfolding read_run done_by ruled
returns-then-odd_length c = simp (sym c.odd_length.ensures ∙ c.if-odd_length.true)

pub returns-then-n-i : goal.returns-then-n-i
unfolding read_run done_by ruled
returns-then-n-i c =
    let a = c.args in
    simp (sym c.odd_length.ensures ∙ c.if-odd_length.false, le-leb a.n a.i (omega (arith, c.if-n-i.true)))

pub returns : goal.returns
unfolding read_run ran_read done_by ruled
returns c =
    simp (
      c.read_sectors.ensures,
      c.fewer-k.ensures.0,
      sym c.odd_length.ensures ∙ c.if-odd_length.false,
      lt-leb _ _ c.if-n-i.false,
    )
