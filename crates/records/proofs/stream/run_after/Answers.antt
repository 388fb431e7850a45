use Prim.Native.Nat.{◌+◌, ◌/◌}
use native.Mathlib.Omega.{arith}
use Rattle.records.proofs.StreamRuns.{run_address, run_later}
use Rattle.records.proofs.stream.run_after.Goals as goal

pub overflow_add-result : goal.overflow_add-result
overflow_add-result c =
    let a = c.args in
    omega (
      arith,
      run_address a.map.now a.p a.run c.requires.2 a.d c.if-p-d.true,
      c.type_inv.map ((a.p + a.d) / 256),
    )

pub returns-then-p-d : goal.returns-then-p-d
returns-then-p-d c =
    let a = c.args in
    run_later a.map.now a.p a.run c.requires.2 a.d c.if-p-d.true
