use mathlib.Core.Path.{◌≡◌, sym, ap, ◌∙◌}
use Prim.Native.Nat.{◌-◌}
use native.Mathlib.Omega.{arith}
use lib.ListN.{length, drop, take}
use Rattle.lists.proofs.LentParts.{lent_rest}
use Rattle.volume.specs.Names.{spaces}
use Rattle.volume.proofs.NameBytes.{end_stop, end_more, end_end}
use Rattle.volume.proofs.names.name_end.Goals as goal

pub returns-then-not-in_name : goal.returns-then-not-in_name
returns-then-not-in_name c =
    let l = c.loop-i in
    let s = c.args.s.now in
    let k : c.all_spaces.result ≡ spaces (take (length s - l.i) (drop l.i s)) = c.all_spaces.ensures in
    k ∙ ap spaces (lent_rest l.i s) ∙ sym (l.invariant ∙ end_stop s l.i (omega arith)
    (sym c.in_name.ensures ∙ c.if-not-in_name.true))

pub loop-i-preserved : goal.loop-i-preserved
loop-i-preserved c =
    let l = c.loop-i in
    l.invariant ∙ end_more _ l.i (omega arith) (sym c.in_name.ensures ∙ c.if-not-in_name.false)

pub returns : goal.returns
returns c =
    let l = c.loop-i in
    sym (l.invariant ∙ end_end _ l.i (omega arith))
