use native.Mathlib.Omega.{arith}
use Rattle.lists.proofs.Ranges.{first_to}
use Rattle.volume.specs.Code.Searches.{bit_at}
use Rattle.volume.proofs.Searches.RunHunt.{lowest_None}
use Rattle.volume.proofs.Searches.RunQuads.{begun, found_head, found_row, found_late, goes_after, goes_on}
use Rattle.volume.proofs.search.lowest_run.Goals as goal

pub loop-start-init : goal.loop-start-init
loop-start-init c = begun _ _ _ (omega arith)

pub overflow_add-start : goal.overflow_add-start
overflow_add-start c = record { fits = omega (arith, c.loop-start.invariant.from, c.loop-start.invariant.to) }

pub quad_at-marks-requires : goal.quad_at-marks-requires
quad_at-marks-requires c = omega (arith, c.loop-start.invariant.short)

pub overflow_add-i : goal.overflow_add-i
overflow_add-i c = record { fits = omega (arith, c.loop-start.invariant.to, c.first_set.ensures, first_to (bit_at 64 c.quad_at-marks.result) 0 64) }

pub returns-then-start-n : goal.returns-then-start-n
returns-then-start-n c =
    let l = c.loop-start in
    let q = c.quad_at-marks.ensures in
    let head = rw q at c.first_set.ensures in
    found_head _ _ _ _ _ c.fits-sat (omega arith) l.invariant (omega arith) _ head c.if-start-n.true

pub overflow_add-i-then-k-lt64 : goal.overflow_add-i-then-k-lt64
overflow_add-i-then-k-lt64 c = record { fits = omega (arith, c.loop-start.invariant.to) }

pub overflow_add-i-then-k-lt64-2 : goal.overflow_add-i-then-k-lt64-2
overflow_add-i-then-k-lt64-2 c = record { fits = omega (arith, c.loop-start.invariant.to) }

pub overflow_add-result : goal.overflow_add-result
overflow_add-result c = record { fits = omega (arith, c.loop-start.invariant.to) }

pub returns-then-i-k : goal.returns-then-i-k
returns-then-i-k c =
    let l = c.loop-start in
    let q = c.quad_at-marks.ensures in
    let head = rw q at c.first_set.ensures in
    let row = rw q at c.first_row-k.ensures in
    found_row _ _ _ _ _ c.fits-sat (omega arith) l.invariant (omega arith) _ head c.if-start-n.false _ row c.if-k-lt64.true c.if-i-k.true

pub returns-then-k-lt64 : goal.returns-then-k-lt64
returns-then-k-lt64 c =
    let l = c.loop-start in
    let q = c.quad_at-marks.ensures in
    let head = rw q at c.first_set.ensures in
    let row = rw q at c.first_row-k.ensures in
    found_late _ _ _ _ _ c.fits-sat (omega arith) l.invariant (omega arith) _ head c.if-start-n.false _ row c.if-k-lt64.true c.if-i-k.false

pub overflow_add-next : goal.overflow_add-next
overflow_add-next c = record { fits = omega (arith, c.loop-start.invariant.to) }

pub overflow_add-start-then-end-ne0 : goal.overflow_add-start-then-end-ne0
overflow_add-start-then-end-ne0 c = record { fits = omega (arith, c.loop-start.invariant.to, c.set_end-end.ensures.within) }

pub loop-start-smaller-then-end-ne0 : goal.loop-start-smaller-then-end-ne0
loop-start-smaller-then-end-ne0 c = omega (arith, c.loop-start.invariant.short)

pub loop-start-preserved-then-end-ne0 : goal.loop-start-preserved-then-end-ne0
loop-start-preserved-then-end-ne0 c =
    let l = c.loop-start in
    let q = c.quad_at-marks.ensures in
    let head = rw q at c.first_set.ensures in
    let row = rw q at c.first_row-k.ensures in
    let ends = rw q at c.set_end-end.ensures in
    let over = c.if-start-n.false in
    goes_after _ _ _ _ _ c.fits-sat (omega arith) l.invariant (omega arith) _ head over _ row c.if-k-lt64.false _ ends (omega (arith, c.if-end-ne0.true))

pub loop-start-smaller : goal.loop-start-smaller
loop-start-smaller c = omega (arith, c.loop-start.invariant.short)

pub loop-start-preserved : goal.loop-start-preserved
loop-start-preserved c =
    let l = c.loop-start in
    let q = c.quad_at-marks.ensures in
    let head = rw q at c.first_set.ensures in
    let row = rw q at c.first_row-k.ensures in
    let ends = rw q at c.set_end-end.ensures in
    let over = c.if-start-n.false in
    goes_on _ _ _ _ _ c.fits-sat (omega arith) l.invariant (omega arith) _ head over _ row c.if-k-lt64.false _ ends c.if-end-ne0.false

pub returns : goal.returns
returns c = lowest_None _ _ _ _ (omega arith) c.loop-start.invariant.none
