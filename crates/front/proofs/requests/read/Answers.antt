use mathlib.Core.List.{List}
use mathlib.Core.Path.{ap, sym}
use Prim.Native.Nat.{ℕ}
use denote.Ref.{MutBor}
use native.Mathlib.Omega.{arith}
use lib.ListN.{length}
use Rattle.desk.specs.Desk.{state}
use Rattle.desk.specs.Calls.{read, step}
use Rattle.front.proofs.FilledAreas.{none_before, fills_first, fills_second}
use Rattle.front.proofs.requests.read.Goals as goal

pub read_at-r-requires : goal.read_at-r-requires
read_at-r-requires c =
    (c.requires.ordered, omega (arith, ap (λ (x : MutBor (List ℕ)). length x.now) c.chosen-named.ensures, rw c.if-p.true at c.requires.within))

pub read_at-r-requires-else-p : goal.read_at-r-requires-else-p
read_at-r-requires-else-p c =
    (c.requires.ordered, omega (arith, ap (λ (x : MutBor (List ℕ)). length x.now) c.chosen-named-else-p.ensures, rw c.if-p.false at c.requires.within))

pub returns-then-p : goal.returns-then-p
returns-then-p c =
    let r = c.chosen-named.ensures in
    fills_second _ (λ (b : List ℕ). step (read c.args.caller c.args.o.lun c.args.o.sel c.args.o.num c.args.o.formatted b)
    (state c.args.image.now c.args.d)) _ _ _ _ _ _ _ _ c.read_at-r.ensures c.if-p.true (ap (λ (x : MutBor (List ℕ)). x.now) r)
    (none_before c.task-1.given.0 c.args.task.now c.task-1.given.1)
    (c.shared-1.given.1.0 (sym (ap (λ (x : MutBor (List ℕ)). x.ghost_name) r)))

pub returns-else-p : goal.returns-else-p
returns-else-p c =
    let r = c.chosen-named-else-p.ensures in
    fills_first _ (λ (b : List ℕ). step (read c.args.caller c.args.o.lun c.args.o.sel c.args.o.num c.args.o.formatted b)
    (state c.args.image.now c.args.d)) _ _ _ _ _ _ _ _ c.read_at-r-else-p.ensures c.if-p.false (ap (λ (x : MutBor (List ℕ)). x.now) r)
    (c.task-else-p-1.given.1.0 (sym (ap (λ (x : MutBor (List ℕ)). x.ghost_name) r)))
    (none_before c.shared-else-p-1.given.0 c.args.shared.now c.shared-else-p-1.given.1)
