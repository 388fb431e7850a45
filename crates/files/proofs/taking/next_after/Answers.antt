use mathlib.Core.Path.{ap, ◌∙◌}
use mathlib.Core.List.{List}
use Prim.Native.Nat.{ℕ}
use Rattle.files.specs.Code.Growing.{next_after}
use Rattle.files.proofs.taking.TakingLoops.{next_none, next_some}
use Rattle.files.proofs.taking.next_after.Goals as goal

pub returns-in_err-last : goal.returns-in_err-last
returns-in_err-last c =
    c.from_residual.ensures ∙ next_none _ c.in_err-last.ensures.value ∙ ap (λ (ps : List (List ℕ)). next_after ps) c.pairs.ensures.is

pub returns : goal.returns
returns c =
    next_some _ _ _ _ c.in_ok-last.ensures.value c.of-last.ensures.start c.of-last.ensures.length
    ∙ ap (λ (ps : List (List ℕ)). next_after ps) c.pairs.ensures.is
