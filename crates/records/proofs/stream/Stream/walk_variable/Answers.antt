use mathlib.Core.Path.{◌≡◌, refl, sym, ◌∙◌}
use Prim.Native.Nat.{◌+◌, ◌-◌}
use native.Mathlib.Omega.{arith}
use Rattle.records.proofs.WalkSteps.{Walked-none, length-stream_in, Walked-bad, step_within, Walked-next, Walked-end}
use Rattle.records.proofs.stream.Stream.walk_variable.Goals as goal

pub run_at-run-requires : goal.run_at-run-requires
run_at-run-requires c = c.args.self.now.mapped.few

pub loop-p-init : goal.loop-p-init
loop-p-init c = (omega arith, omega arith, refl, c.run_at-run.ensures, Walked-none _)

pub step_at-requires : goal.step_at-requires
step_at-requires c =
    let l = c.loop-p in
    (c.requires, omega arith, l.invariant.2, l.invariant.3)

pub overflow_sub-q : goal.overflow_sub-q
overflow_sub-q c =
    let k = sym c.step_at.ensures ∙ c.in_ok-q.was in
    let b = step_within c.args.self.now.img.now c.args.self.now.map.now c.args.self.now.mapped c.args.e c.requires _ _ k in
    omega arith

pub run_after-run-requires : goal.run_after-run-requires
run_after-run-requires c =
    let l = c.loop-p in
    let k = sym c.step_at.ensures ∙ c.in_ok-q.was in
    let b = step_within c.args.self.now.img.now c.args.self.now.map.now c.args.self.now.mapped c.args.e c.requires _ _ k in
    (c.args.self.now.mapped.few, omega arith, l.invariant.3)

pub returns-in_err-q : goal.returns-in_err-q
returns-in_err-q c =
    let l = c.loop-p in
    c.from_residual.ensures
    ∙ Walked-bad _ l.p l.n l.invariant.4 (omega (arith, length-stream_in c.args.self.now.img.now c.args.self.now.map.now c.args.self.now.mapped c.args.e c.requires))
    (sym c.step_at.ensures ∙ c.in_err-q.was)

pub overflow_add-n : goal.overflow_add-n
overflow_add-n c = omega arith

pub loop-p-smaller : goal.loop-p-smaller
loop-p-smaller c =
    let k = sym c.step_at.ensures ∙ c.in_ok-q.was in
    let b = step_within c.args.self.now.img.now c.args.self.now.map.now c.args.self.now.mapped c.args.e c.requires _ _ k in
    omega arith

pub loop-p-preserved : goal.loop-p-preserved
loop-p-preserved c =
    let l = c.loop-p in
    let k = sym c.step_at.ensures ∙ c.in_ok-q.was in
    let b = step_within c.args.self.now.img.now c.args.self.now.map.now c.args.self.now.mapped c.args.e c.requires _ _ k in
    let v = c.in_ok-q.q in
    let q : l.p + (v - l.p) ≡ v = omega arith in
    (omega arith, omega arith, omega arith, rw q at c.run_after-run.ensures, Walked-next _ l.p l.n _ l.invariant.4 k)

pub returns : goal.returns
returns c =
    let l = c.loop-p in
    Walked-end _ l.p l.n l.invariant.4 (omega (arith, length-stream_in c.args.self.now.img.now c.args.self.now.map.now c.args.self.now.mapped c.args.e c.requires))
