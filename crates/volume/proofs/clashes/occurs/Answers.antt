use mathlib.Core.Path.{refl, sym, ◌∙◌, ap}
use mathlib.Core.Bool.{Bool}
use Prim.Native.Nat.{◌+◌}
use native.Mathlib.Omega.{arith}
use lib.ListN.{drop, get_or}
use lib.Dec.{eqb}
use Rattle.lists.specs.Lists.{among, ◌or◌}
use Rattle.lists.proofs.Bools.{or_is}
use Rattle.volume.proofs.clashes.FileNumbers.{occurs_more, occurs_end}
use Rattle.volume.proofs.clashes.occurs.Goals as goal

pub loop-n-init : goal.loop-n-init
unfolding ◌or◌
loop-n-init c = refl

pub loop-n-preserved : goal.loop-n-preserved
loop-n-preserved c =
    let l = c.loop-n in
    let ns = c.args.numbers.now in
    l.invariant ∙ occurs_more c.args.x ns l.n-index (omega arith) l.found
    ∙ ap (λ (b : Bool). b or among c.args.x (drop (l.n-index + 1) ns)) (sym (or_is l.found (eqb c.args.x (get_or ns l.n-index 0))))

pub returns : goal.returns
returns c =
    let l = c.loop-n in
    sym (l.invariant ∙ occurs_end c.args.x c.args.numbers.now l.n-index (omega arith) l.found)
