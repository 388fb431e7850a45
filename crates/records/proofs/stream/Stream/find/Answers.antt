use mathlib.Core.Path.{◌∙◌}
use native.Mathlib.Omega.{arith}
use Rattle.records.proofs.WalkSteps.{length-stream_in, spot_fixed, past_fixed}
use Rattle.records.proofs.stream.Stream.find.Goals as goal

pub find_variable-requires : goal.find_variable-requires
find_variable-requires c = (c.requires.0, rw c.if-l-eq0.true at c.requires.2)

pub returns-then-l-eq0 : goal.returns-then-l-eq0
returns-then-l-eq0 c = c.find_variable.ensures ∙ rw c.if-l-eq0.true

pub overflow_mul-result : goal.overflow_mul-result
overflow_mul-result c =
    omega (
      arith,
      c.args.self.now.mapped.few,
      (spot_fixed c.args.l _ (omega arith) c.args.i c.args.e
          (length-stream_in c.args.self.now.img.now c.args.self.now.map.now c.args.self.now.mapped c.args.e c.requires.0) c.requires.1 c.requires.2 c.if-i-e.true).1,
    )

pub returns-then-i-e : goal.returns-then-i-e
returns-then-i-e c =
    (spot_fixed c.args.l _ (omega arith) c.args.i c.args.e (length-stream_in c.args.self.now.img.now c.args.self.now.map.now c.args.self.now.mapped c.args.e c.requires.0)
    c.requires.1 c.requires.2 c.if-i-e.true).0

pub returns : goal.returns
returns c =
    past_fixed c.args.l _ (omega arith) c.args.i c.args.e (length-stream_in c.args.self.now.img.now c.args.self.now.map.now c.args.self.now.mapped c.args.e c.requires.0)
    c.if-i-e.false
