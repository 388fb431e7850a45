use mathlib.Core.Path.{◌∙◌}
use Prim.Native.Nat.{◌%◌, ◌≤◌}
use native.Mathlib.Nat.{mul-le-mul_right}
use native.Mathlib.Omega.{arith}
use Rattle.records.proofs.StreamRuns.{run_room, run_word}
use Rattle.records.proofs.WalkSteps.{at_short, at_large, at_past, at_pad, at_good}
use Rattle.records.proofs.stream.Stream.step_at.Goals as goal

pub returns-then-e-p-lt2 : goal.returns-then-e-p-lt2
returns-then-e-p-lt2 c =
    let a = c.args in
    at_short a.self.now.img.now a.self.now.map.now c.args.self.now.mapped a.e c.requires.0 a.p (omega arith)

pub word_at-n-requires : goal.word_at-n-requires
word_at-n-requires c =
    let a = c.args in
    run_room a.self.now.map.now a.p a.run c.requires.3 a.self.now.img.now c.args.self.now.mapped c.requires.2 (omega arith)

pub returns-then-n-gt-RECORD_LIMIT : goal.returns-then-n-gt-RECORD_LIMIT
returns-then-n-gt-RECORD_LIMIT c =
    let a = c.args in
    let w = c.word_at-n.ensures.0 ∙ run_word a.self.now.map.now a.p a.run c.requires.3 a.self.now.img.now a.self.now.mapped c.requires.2 (omega arith) in
    elim c.then-n-gt-RECORD_LIMIT.branch [
      | goal.then-n-gt-RECORD_LIMIT-via-then-n-gt-RECORD_LIMIT v ↦ at_large a.self.now.img.now a.self.now.map.now a.self.now.mapped a.e c.requires.0 a.p _ w (omega arith) (omega (arith, v.if-n-gt-RECORD_LIMIT.true))
      | goal.then-n-gt-RECORD_LIMIT-via-else-n-gt-RECORD_LIMIT+then-e-p v ↦ at_past a.self.now.img.now a.self.now.map.now a.self.now.mapped a.e c.requires.0 a.p _ w (omega arith) (omega (arith, v.if-e-p.true))
    ]

pub byte_before-requires : goal.byte_before-requires
byte_before-requires c = (omega arith, omega arith, c.requires.3)

pub overflow_mul-n : goal.overflow_mul-n
overflow_mul-n c =
    let h : c.word_at-n.result % 2 ≤ 1 = omega arith in
    omega (arith, mul-le-mul_right c.from.result h, c.from.ensures, c.byte_before.type_inv)

pub returns-then-n-from-ne0 : goal.returns-then-n-from-ne0
returns-then-n-from-ne0 c =
    let a = c.args in
    let w = c.word_at-n.ensures.0 ∙ run_word a.self.now.map.now a.p a.run c.requires.3 a.self.now.img.now a.self.now.mapped c.requires.2 (omega arith) in
    at_pad a.self.now.img.now a.self.now.map.now a.self.now.mapped a.e c.requires.0 a.p _ w (omega arith) (omega arith)
    (rw (c.from.ensures, c.byte_before.ensures) at c.if-n-from-ne0.true)

pub returns : goal.returns
returns c =
    let a = c.args in
    let w = c.word_at-n.ensures.0 ∙ run_word a.self.now.map.now a.p a.run c.requires.3 a.self.now.img.now a.self.now.mapped c.requires.2 (omega arith) in
    at_good a.self.now.img.now a.self.now.map.now a.self.now.mapped a.e c.requires.0 a.p _ w (omega arith) (omega arith) (omega arith)
    (rw (c.from.ensures, c.byte_before.ensures) at c.if-n-from-ne0.false)
