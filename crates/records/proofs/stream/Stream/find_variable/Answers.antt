use mathlib.Core.Path.{refl, sym, ◌∙◌}
use Prim.Native.Nat.{zero-le}
use native.Mathlib.Omega.{arith}
use Rattle.records.proofs.RecordPlaces.{place_zero}
use Rattle.records.proofs.StreamRuns.{run_room, run_word}
use Rattle.records.proofs.WalkSteps.{finds_past, finds_next, finds_at}
use Rattle.records.proofs.stream.Stream.find_variable.Goals as goal

pub run_at-run-requires : goal.run_at-run-requires
run_at-run-requires c = c.args.self.now.mapped.few

pub loop-k-init : goal.loop-k-init
loop-k-init c = (omega arith, sym (place_zero 0 _), zero-le, omega arith, refl, c.run_at-run.ensures)

pub returns-then-e-p : goal.returns-then-e-p
returns-then-e-p c =
    let l = c.loop-k in
    finds_past c.args.self.now.img.now c.args.self.now.map.now c.args.self.now.mapped c.args.e c.requires.0
    c.args.self.now.bytes c.requires.1 c.args.i l._k l.p l.invariant.1 l.invariant.2 l.invariant.0 c.if-e-p.true

pub word_at-n-requires : goal.word_at-n-requires
word_at-n-requires c =
    let l = c.loop-k in
    run_room c.args.self.now.map.now l.p l.run l.invariant.5 c.args.self.now.img.now c.args.self.now.mapped l.invariant.4 (omega arith)

pub run_after-run-requires : goal.run_after-run-requires
run_after-run-requires c =
    let l = c.loop-k in
    let w = c.word_at-n.ensures.0 ∙ run_word c.args.self.now.map.now l.p l.run l.invariant.5 c.args.self.now.img.now c.args.self.now.mapped l.invariant.4
    (omega arith) in
    let f = finds_next c.args.self.now.img.now c.args.self.now.map.now c.args.self.now.mapped c.args.e c.requires.0
    c.args.self.now.bytes c.requires.1 c.args.i l._k l.p l.invariant.1 l.invariant.2 _ w (omega arith) in
    (c.args.self.now.mapped.few, omega arith, l.invariant.5)

pub overflow_add-p : goal.overflow_add-p
overflow_add-p c =
    let l = c.loop-k in
    let w = c.word_at-n.ensures.0 ∙ run_word c.args.self.now.map.now l.p l.run l.invariant.5 c.args.self.now.img.now c.args.self.now.mapped l.invariant.4
    (omega arith) in
    let f = finds_next c.args.self.now.img.now c.args.self.now.map.now c.args.self.now.mapped c.args.e c.requires.0
    c.args.self.now.bytes c.requires.1 c.args.i l._k l.p l.invariant.1 l.invariant.2 _ w (omega arith) in
    omega (arith, c.args.self.now.mapped.few)

pub loop-k-smaller : goal.loop-k-smaller
loop-k-smaller c = omega arith

pub loop-k-preserved : goal.loop-k-preserved
loop-k-preserved c =
    let l = c.loop-k in
    let w = c.word_at-n.ensures.0 ∙ run_word c.args.self.now.map.now l.p l.run l.invariant.5 c.args.self.now.img.now c.args.self.now.mapped l.invariant.4
    (omega arith) in
    let f = finds_next c.args.self.now.img.now c.args.self.now.map.now c.args.self.now.mapped c.args.e c.requires.0
    c.args.self.now.bytes c.requires.1 c.args.i l._k l.p l.invariant.1 l.invariant.2 _ w (omega arith) in
    (omega arith, f.0, f.1, f.2, omega arith, c.run_after-run.ensures)

pub returns-then-e-p-2 : goal.returns-then-e-p-2
returns-then-e-p-2 c =
    let l = c.loop-k in
    finds_past c.args.self.now.img.now c.args.self.now.map.now c.args.self.now.mapped c.args.e c.requires.0
    c.args.self.now.bytes c.requires.1 c.args.i l._k l.p l.invariant.1 l.invariant.2 l.invariant.0 c.if-e-p-2.true

pub word_at-len-requires : goal.word_at-len-requires
word_at-len-requires c =
    let l = c.loop-k in
    run_room c.args.self.now.map.now l.p l.run l.invariant.5 c.args.self.now.img.now c.args.self.now.mapped l.invariant.4 (omega arith)

pub overflow_add-result : goal.overflow_add-result
overflow_add-result c = omega (arith, c.args.self.now.mapped.few)

pub returns : goal.returns
returns c =
    let l = c.loop-k in
    let w = c.word_at-len.ensures.0 ∙ run_word c.args.self.now.map.now l.p l.run l.invariant.5 c.args.self.now.img.now c.args.self.now.mapped l.invariant.4
    (omega arith) in
    finds_at c.args.self.now.img.now c.args.self.now.map.now c.args.self.now.mapped c.args.e c.requires.0
    c.args.self.now.bytes c.requires.1 c.args.i l._k l.p l.invariant.1 l.invariant.2 _ w (omega arith) (omega arith)
