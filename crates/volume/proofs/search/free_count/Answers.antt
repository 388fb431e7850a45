use mathlib.Core.Path.{◌≡◌}
use Prim.Native.Nat.{◌-◌, ◌*◌, ◌%◌, ◌/◌}
use native.Mathlib.Omega.{arith}
use Rattle.volume.specs.Sat.{is_free}
use Rattle.volume.proofs.Searches.Counted.{count-le, counted_so_far, all_counted}
use Rattle.volume.proofs.search.free_count.Goals as goal

pub returns-then-t-eq0 : goal.returns-then-t-eq0
returns-then-t-eq0 c =
    let a = c.args in
    let q = a.t / 8 in
    let so_far = counted_so_far a.sat.now c.fits-sat a.t q (omega arith) (omega arith) in
    omega (arith, c.clear_total-n.ensures, count-le (is_free a.sat.now) (8 * q) (a.t - 8 * q))

pub overflow_add-result : goal.overflow_add-result
overflow_add-result c =
    let a = c.args in
    let so_far = counted_so_far a.sat.now c.fits-sat a.t (a.t / 8) (omega arith) (omega arith) in
    record { fits = omega (arith, c.clear_total-n.ensures, c.set_count.ensures.1, count-le (is_free a.sat.now) 0 a.t) }

pub returns : goal.returns
returns c =
    let a = c.args in
    let q = a.t / 8 in
    let r : a.t % 8 ≡ a.t - 8 * q = omega arith in
    all_counted a.sat.now c.fits-sat a.t q _ _ (omega arith) (rw r at c.set_count.ensures.0)
    (rw (← c.clear_total-n.ensures) at (counted_so_far a.sat.now c.fits-sat a.t q (omega arith) (omega arith)))
