use mathlib.Core.Path.{◌∙◌, ap}
use native.Mathlib.Omega.{arith}
use Rattle.std.specs.Prelude.{Ok}
use Rattle.lists.specs.Parts.{part}
use Rattle.records.specs.Streams.{laid_out}
use Rattle.text.specs.Packing.{unpacked}
use Rattle.work.proofs.Handing.{handed_short, handed_long, part_long, stored_front}
use Rattle.work.proofs.codings.TextCoding.hand_over.Goals as goal

pub returns-then-buffer-n : goal.returns-then-buffer-n
returns-then-buffer-n c =
    let st = c.args.stream.now in
    let long = part_long _ _ _ _ st.mapped c.requires.0 in
    let front = stored_front _ _ _ _ long c.read.ensures in
    let n = rw front at c.text_length-n.ensures.0 in
    let few = rw (front, long) at c.text_length-n.ensures.1 in
    let h = handed_short (unpacked (part c.args.from c.args.len (laid_out st.img.now st.map.now))) c.args.buffer.now (omega (arith, n, c.if-buffer-n.true)) in
    (h.0, h.1, omega (arith, n, few))

pub returns : goal.returns
returns c =
    let st = c.args.stream.now in
    let long = part_long _ _ _ _ st.mapped c.requires.0 in
    let front = stored_front _ _ _ _ long c.read.ensures in
    let n = rw front at c.text_length-n.ensures.0 in
    let few = rw (front, long) at c.text_length-n.ensures.1 in
    let h = handed_long (unpacked (part c.args.from c.args.len (laid_out st.img.now st.map.now))) c.args.buffer.now (omega (arith, n, c.if-buffer-n.false)) in
    (ap Ok n ∙ h.0, rw front at c.unpack.ensures ∙ h.1, omega (arith, n, few))
