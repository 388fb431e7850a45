use mathlib.Core.Path.{ap, sym, ◌∙◌}
use Prim.Native.Nat.{◌/◌}
use native.Mathlib.Omega.{arith}
use Rattle.lists.specs.Parts.{zeros}
use Rattle.files.proofs.check.FileTails.{no_tail, tail_part, tail_here}
use Rattle.files.proofs.check.tail_zero.Goals as goal

pub returns-then-r-eq0 : goal.returns-then-r-eq0
returns-then-r-eq0 c =
    sym (no_tail c.args.stream.now.img.now c.args.stream.now.map.now c.args.stream.now.mapped c.args.e c.requires c.if-r-eq0.true)

pub bounds-stream-e : goal.bounds-stream-e
bounds-stream-e c =
    tail_here c.args.stream.now.img.now c.args.stream.now.map.now c.args.stream.now.mapped c.args.e c.requires c.if-r-eq0.false

pub slice_bounds-all_zero-end : goal.slice_bounds-all_zero-end
slice_bounds-all_zero-end c =
    let h = tail_here c.args.stream.now.img.now c.args.stream.now.map.now c.args.stream.now.mapped c.args.e c.requires c.if-r-eq0.false in
    omega (arith, c.args.stream.now.mapped.inside (c.args.e / 256) h, c.from-last.ensures)

pub returns : goal.returns
returns c =
    c.all_zero.ensures
    ∙ ap zeros (tail_part c.args.stream.now.img.now c.args.stream.now.map.now c.args.stream.now.mapped c.args.e c.requires c.if-r-eq0.false _
    c.from-last.ensures)
