use mathlib.Core.Path.{◌≡◌, refl, ◌∙◌}
use Prim.Native.Nat.{◌-◌, ◌+◌}
use native.Mathlib.Omega.{arith}
use Rattle.records.proofs.ChunkWritten.{Wrote-none, turn_asks, Wrote-more, wrote_all}
use Rattle.records.proofs.chunks.write_stream.Goals as goal

pub loop-i-init : goal.loop-i-init
loop-i-init c = (omega arith, refl, Wrote-none _ _ _ _)

pub write_chunk-requires : goal.write_chunk-requires
write_chunk-requires c =
    let loop = c.loop-i in
    let a = c.args in
    let l = loop in
    let r = c.min.result in
    let z : l.i + r - l.i ≡ r = omega arith in
    let t = turn_asks a.map.now a.from a.src.now a.img.now l.img l.i c.requires.0 c.requires.1 c.requires.2 l.invariant.2 r
    (omega (arith, c.min.ensures)) (omega arith) (omega (arith, c.min.ensures)) in
    (omega (arith, c.from.ensures, t.0), rw z t.1)

pub loop-i-smaller : goal.loop-i-smaller
loop-i-smaller c = omega (arith, c.min.ensures)

pub loop-i-preserved : goal.loop-i-preserved
loop-i-preserved c =
    let loop = c.loop-i in
    let a = c.args in
    let l = loop in
    let r = c.min.result in
    let z : l.i + r - l.i ≡ r = omega arith in
    let w = Wrote-more a.map.now a.from a.src.now a.img.now l.img l.i c.requires.0 c.requires.1 c.requires.2 l.invariant.2 r
    (omega (arith, c.min.ensures)) (omega arith)
    (omega (arith, c.min.ensures)) in
    let e = rw (z, c.from.ensures) at c.write_chunk.ensures in
    (omega (arith, c.min.ensures), c.write_chunk.auto.img ∙ l.invariant.1, rw e w)

pub returns : goal.returns
returns c =
    let a = c.args in
    let l = c.loop-i in
    wrote_all a.map.now a.from a.src.now a.img.now l.img l.i c.requires.0 c.requires.1 c.requires.2 l.invariant.2 c.loop-i-test.false
