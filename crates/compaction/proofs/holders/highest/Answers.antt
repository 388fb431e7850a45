use mathlib.Core.Path.{◌≡◌, sym, ap, ◌∙◌}
use native.Mathlib.Omega.{arith}
use Rattle.lists.specs.Lists.{topmost}
use Rattle.compaction.proofs.holders.HolderTable.{held_yes, held_no}
use Rattle.lists.proofs.TopmostFound.{topmost_yes, topmost_no, topmost_end}
use Rattle.compaction.proofs.holders.highest.Goals as goal

pub returns-then-who-i : goal.returns-then-who-i
returns-then-who-i c =
    let l = c.loop-i in
    sym (topmost_yes _ l.i (omega arith) (held_yes _ _ _ c.if-who-i.true)) ∙ l.invariant

pub loop-i-preserved : goal.loop-i-preserved
loop-i-preserved c =
    let l = c.loop-i in
    sym (topmost_no _ l.i (omega arith) (held_no _ _ _ c.if-who-i.false)) ∙ l.invariant

pub returns : goal.returns
returns c =
    let l = c.loop-i in
    let z : l.i ≡ 0 = omega arith in
    sym (ap (topmost _) z ∙ topmost_end _) ∙ l.invariant
