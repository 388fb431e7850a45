use native.Mathlib.Omega.{arith}
use Rattle.records.proofs.WalkSteps.{length-stream_in, fixed_whole, fixed_broken}
use Rattle.records.proofs.stream.Stream.walk.Goals as goal

pub returns-then-e-l-eq0 : goal.returns-then-e-l-eq0
returns-then-e-l-eq0 c =
    fixed_whole c.args.l _ (omega arith) c.args.e (length-stream_in c.args.self.now.img.now c.args.self.now.map.now c.args.self.now.mapped c.args.e c.requires) c.if-e-l-eq0.true

pub returns : goal.returns
returns c =
    fixed_broken c.args.l _ (omega arith) c.args.e (length-stream_in c.args.self.now.img.now c.args.self.now.map.now c.args.self.now.mapped c.args.e c.requires) c.if-e-l-eq0.false
