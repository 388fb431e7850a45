use mathlib.Core.Path.{◌∙◌}
use Prim.Native.Nat.{◌≤◌, ◌-◌, min}
use native.Mathlib.Nat.{min-le_left, min-le_right, lt_of_le_of_lt, le-min}
use native.Mathlib.Omega.{arith}
use lib.Bits.{and_le_l}
use Rattle.volume.proofs.Searches.BitRows.{row_one, row_long, row_join, rows_none, rows_first, no_row}
use Rattle.volume.proofs.quads.first_row.Goals as goal

pub returns-then-n-gt64 : goal.returns-then-n-gt64
returns-then-n-gt64 c = no_row _ _ (λ k h. row_long _ _ k c.if-n-gt64.true)

pub loop-m-init : goal.loop-m-init
loop-m-init c = (omega arith, c.requires, c.ranges.x.fits, (λ k h. row_one _ k h))

pub returns-then-rows-eq0 : goal.returns-then-rows-eq0
returns-then-rows-eq0 c = let l = c.loop-m in rows_none _ _ _ l.invariant.0 l.invariant.3 _ l.invariant.1 c.if-rows-eq0.true

pub overflow_shl-rows : goal.overflow_shl-rows
overflow_shl-rows c =
    let l = c.loop-m in
    let n = c.args.n in
    omega (arith, l.invariant.0, c.min-s.ensures, min-le_right l.m (n - l.m))

pub overflow_add-m : goal.overflow_add-m
overflow_add-m c =
    let l = c.loop-m in
    let n = c.args.n in
    record { fits = omega (arith, l.invariant.1, c.min-s.ensures, min-le_right l.m (n - l.m)) }

pub loop-m-smaller : goal.loop-m-smaller
loop-m-smaller c =
    let l = c.loop-m in
    let n = c.args.n in
    let p : 1 ≤ min l.m (n - l.m) = le-min l.invariant.0 (omega arith) in
    omega (arith, l.invariant.1)

pub loop-m-preserved : goal.loop-m-preserved
loop-m-preserved c =
    let l = c.loop-m in
    let n = c.args.n in
    let e = c.min-s.ensures in
    let s = c.min-s.result in
    let a : s ≤ l.m = omega (arith, e, min-le_left l.m (n - l.m)) in
    let b : s ≤ n - l.m = omega (arith, e, min-le_right l.m (n - l.m)) in
    (omega arith, omega arith, lt_of_le_of_lt (and_le_l _ _) l.invariant.2, (λ k h. row_join _ _ _ l.invariant.0 l.invariant.3 s k a h))

pub returns : goal.returns
returns c =
    let l = c.loop-m in
    c.first_set.ensures ∙ rows_first _ _ _ l.invariant.0 l.invariant.3 _ (omega (arith, l.invariant.1))
