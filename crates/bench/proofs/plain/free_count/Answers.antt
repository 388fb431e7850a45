use mathlib.Core.Path.{sym, ap, ◌∙◌}
use mathlib.Core.Bool.{not}
use native.Mathlib.Nat.{sub-zero, zero-add}
use native.Mathlib.Omega.{arith}
use lib.ListN.{length}
use borrow.Author.Rules.{rules}
use Rattle.lists.proofs.Ranges.{kept_yes, kept_no, kept_end}
use Rattle.volume.specs.Sat.{is_free}
use Rattle.bench.proofs.plain.free_count.Goals.{then-not-marked, else-not-marked}
use Rattle.bench.proofs.plain.free_count.Goals as goal

pub loop-i-init : goal.loop-i-init
loop-i-init c = (search rules, rw (zero-add, sub-zero))

pub loop-i-preserved : goal.loop-i-preserved
unfolding is_free
loop-i-preserved c =
    let l = c.loop-i in
    let a = c.args in
    elim c.if-not-marked.branch [
      | then-not-marked w ↦
          let e = ap length (kept_yes (is_free a.sat.now) l.i a.t (omega arith) (ap not (sym c.marked.ensures ∙ w.if-not-marked.true))) in
          (omega (arith, w.n-is), omega (arith, l.invariant.1, e, w.n-is))
      | else-not-marked w ↦
          let e = ap length (kept_no (is_free a.sat.now) l.i a.t (omega arith) (ap not (sym c.marked.ensures ∙ w.if-not-marked.false))) in
          (omega (arith, w.n-is), omega (arith, l.invariant.1, e, w.n-is))
    ]

pub returns : goal.returns
returns c =
    let l = c.loop-i in
    let a = c.args in
    let e = ap length (kept_end (is_free a.sat.now) l.i a.t (omega arith)) in
    omega (arith, l.invariant.1, e)
