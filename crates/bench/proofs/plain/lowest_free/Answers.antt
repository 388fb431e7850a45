use mathlib.Core.Path.{refl}
use native.Mathlib.Omega.{arith}
use lib.ListN.{length-set}
use Rattle.volume.specs.Sat.{is_free}
use Rattle.files.proofs.taking.LowestFound.{Found-none, found_below, Found-more, Found-all}
use Rattle.bench.proofs.plain.lowest_free.Goals as goal

pub loop-k-init : goal.loop-k-init
loop-k-init c =
    Found-none (is_free c.args.sat.now) c.args.t c.args.n c.args.out.now c.requires.1 c.requires.2

pub overflow_cast-out : goal.overflow_cast-out
overflow_cast-out c =
    let l = c.loop-k in
    let b = found_below (is_free c.args.sat.now) c.args.t c.args.n c.args.out.now c.requires.1 c.requires.2 l.k l.from l.out l.invariant (omega arith) _
    c.next_free-s.ensures in
    omega arith

pub bounds-out-k : goal.bounds-out-k
bounds-out-k c = omega (arith, c.loop-k.invariant.long)

pub overflow_add-from : goal.overflow_add-from
overflow_add-from c =
    let l = c.loop-k in
    let b = found_below (is_free c.args.sat.now) c.args.t c.args.n c.args.out.now c.requires.1 c.requires.2 l.k l.from l.out l.invariant (omega arith) _
    c.next_free-s.ensures in
    omega arith

pub loop-k-preserved : goal.loop-k-preserved
loop-k-preserved c =
    let l = c.loop-k in
    Found-more (is_free c.args.sat.now) c.args.t c.args.n c.args.out.now c.requires.1 c.requires.2 l.k l.from l.out l.invariant (omega arith) _
    c.next_free-s.ensures _ refl (simp length-set l.invariant.long)

pub returns : goal.returns
returns c =
    let l = c.loop-k in
    Found-all (is_free c.args.sat.now) c.args.t c.args.n c.args.out.now c.requires.1 c.requires.2 l.k l.from l.out (omega arith) l.invariant
