use native.Mathlib.Omega.{arith}
use Rattle.records.proofs.StreamRuns.{run_inside, run_before}
use Rattle.records.proofs.stream.Stream.byte_before.Goals as goal

pub overflow_add-result : goal.overflow_add-result
overflow_add-result c =
    let a = c.args in
    omega (arith, run_inside a.self.now.map.now a.p a.run c.requires.2 a.self.now.img.now c.args.self.now.mapped a.d c.if-p-d.true)

pub bounds-self-run : goal.bounds-self-run
bounds-self-run c =
    let a = c.args in
    omega (arith, run_inside a.self.now.map.now a.p a.run c.requires.2 a.self.now.img.now c.args.self.now.mapped a.d c.if-p-d.true)

pub returns-then-p-d : goal.returns-then-p-d
returns-then-p-d c =
    let a = c.args in
    let b = run_before a.self.now.map.now a.p a.run c.requires.2 a.self.now.img.now c.args.self.now.mapped a.d c.requires.0 c.if-p-d.true in
    b
