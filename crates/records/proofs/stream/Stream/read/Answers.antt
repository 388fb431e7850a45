use mathlib.Core.Path.{refl, ◌∙◌}
use Prim.Native.Nat.{◌+◌, ◌*◌, ◌%◌}
use native.Mathlib.Omega.{arith}
use lib.ListN.{length-take, length-drop}
use Rattle.lists.proofs.LentParts.{lent}
use Rattle.records.specs.Streams.{laid_out}
use Rattle.records.proofs.CopiedParts.{Copied-none, Copied-more, copied_all}
use Rattle.records.proofs.StreamBytes.{length-laid_out, piece_in, piece_is}
use Rattle.records.proofs.stream.Stream.read.Goals as goal

pub loop-i-init : goal.loop-i-init
loop-i-init c = (omega arith, refl, Copied-none _ _ _ _)

pub slice_bounds-copy_at-end : goal.slice_bounds-copy_at-end
slice_bounds-copy_at-end c =
    let a = c.args in
    let l = c.loop-i in
    let p = piece_in a.self.now.img.now a.self.now.map.now c.args.self.now.mapped (a.from + l.i) c.min-n.result (omega arith) (omega (arith, c.min-n.ensures)) in
    omega (arith, c.from.ensures)

pub copy_at-requires : goal.copy_at-requires
copy_at-requires c = simp (length-take, length-drop) (omega (arith, c.min-n.ensures))

pub loop-i-smaller : goal.loop-i-smaller
loop-i-smaller c = omega (arith, c.min-n.ensures)

pub loop-i-preserved : goal.loop-i-preserved
loop-i-preserved c =
    let a = c.args in
    let l = c.loop-i in
    let d = laid_out a.self.now.img.now a.self.now.map.now in
    let n = c.min-n.result in
    let at = 256 * c.from.result + (a.from + l.i) % 256 in
    let p = piece_is a.self.now.img.now a.self.now.map.now c.args.self.now.mapped (a.from + l.i) n (omega arith) (omega (arith, c.min-n.ensures)) in
    let e = lent at (at + n) n a.self.now.img.now refl ∙ rw (← c.from.ensures) at p in
    let m = Copied-more d a.from a.len a.buf.now l.buf l.i l.invariant.2 n _ (omega (arith, c.min-n.ensures))
    (omega (arith, length-laid_out a.self.now.img.now a.self.now.map.now c.args.self.now.mapped)) e in
    (omega (arith, c.min-n.ensures), c.copy_at.auto.part ∙ l.invariant.1, rw c.copy_at.ensures m)

pub returns : goal.returns
returns c =
    let a = c.args in
    let l = c.loop-i in
    copied_all _ a.from a.len a.buf.now l.buf l.i l.invariant.2 c.loop-i-test.false
