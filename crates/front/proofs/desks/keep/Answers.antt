use mathlib.Core.Path.{refl, sym, ◌∙◌}
use Rattle.front.proofs.KeptDesks.{kept_done, kept_refused}
use Rattle.front.proofs.desks.keep.Goals as goal

pub returns-then-is_ok : goal.returns-then-is_ok
returns-then-is_ok c =
    (refl, c.pack.ensures ∙ kept_done _ _ c.args.bytes.now (sym c.is_ok.ensures.value ∙ c.if-is_ok.true))

pub returns-else-is_ok : goal.returns-else-is_ok
returns-else-is_ok c = (refl, kept_refused _ c.args.r.desk _ (sym c.is_ok.ensures.value ∙ c.if-is_ok.false))
