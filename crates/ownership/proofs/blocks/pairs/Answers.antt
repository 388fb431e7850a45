use mathlib.Core.Path.{◌∙◌}
use native.Mathlib.Omega.{arith}
use Rattle.ownership.proofs.Pairs.{pairs_made}
use Rattle.ownership.proofs.blocks.pairs.Goals as goal

pub returns-clause-is : goal.returns-clause-is
returns-clause-is c =
    let e = c.segments.ensures.0 in
    c.as_chunks.ensures.front ∙ pairs_made c.args.f.now _ e (omega (arith, c.requires.0, c.requires.1, e))
