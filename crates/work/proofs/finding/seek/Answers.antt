use mathlib.Core.Path.{sym, ◌∙◌}
use Rattle.work.specs.Refusals.{ruled}
use Rattle.work.specs.Volumes.{named_rules, exists, slot_of}
use Rattle.work.specs.Code.Deeds.{sought_of}
use Rattle.work.proofs.Searches.{ok_or_found}
use Rattle.work.proofs.finding.seek.Goals as goal

pub returns-then-not-descriptor : goal.returns-then-not-descriptor
unfolding sought_of named_rules ruled
returns-then-not-descriptor c = rw (sym c.descriptor.ensures ∙ c.if-not-descriptor.true)

pub returns : goal.returns
unfolding sought_of named_rules exists slot_of ruled
returns c =
    c.ok_or.ensures.value
    ∙ rw (
      c.find.ensures,
      sym c.descriptor.ensures ∙ c.if-not-descriptor.false,
    ) (ok_or_found _ _ c.args.v.now.located _ _)
