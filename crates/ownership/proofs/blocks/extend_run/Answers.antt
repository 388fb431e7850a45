use mathlib.Core.Path.{refl, sym, ◌∙◌}
use mathlib.Core.Bool.{true≢false}
use native.Mathlib.Omega.{arith}
use Rattle.ownership.proofs.BlockWriters.{joins_some}
use Rattle.ownership.proofs.BlockRuns.{ran_none, ran_on, ran_full, ran_new}
use Rattle.ownership.proofs.blocks.extend_run.Goals as goal

pub returns-then-n-eq0 : goal.returns-then-n-eq0
returns-then-n-eq0 c = (ran_none _ c.requires.shaped _ _ (λ i. (c.type_inv.f i).fits) c.if-n-eq0.true, (λ h. refl))

pub lengthen-requires : goal.lengthen-requires
lengthen-requires c =
    (c.requires.shaped, joins_some _ c.requires.shaped _ (sym c.joins.ensures ∙ c.if-joins.true), c.requires.short)

pub returns-then-joins : goal.returns-then-joins
returns-then-joins c = (
  ran_on _ c.requires.shaped _ _
      c.if-n-eq0.false _
      (sym c.joins.ensures ∙ c.if-joins.true) c.lengthen.ensures,
  (λ h. absurd (true≢false h)),
)

pub returns-then-segments-ge-MOST_SEGMENTS : goal.returns-then-segments-ge-MOST_SEGMENTS
returns-then-segments-ge-MOST_SEGMENTS c = (
  ran_full _ c.requires.shaped _ _ c.if-n-eq0.false _
      (sym c.joins.ensures ∙ c.if-joins.false) (omega arith),
  (λ h. refl),
)

pub returns : goal.returns
returns c = (
  ran_new _ c.requires.shaped _ _
      c.if-n-eq0.false _
      (sym c.joins.ensures ∙ c.if-joins.false)
      (omega arith) c.open_segment.ensures,
  (λ h. absurd (true≢false h)),
)
