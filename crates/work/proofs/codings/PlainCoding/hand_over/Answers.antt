use mathlib.Core.Path.{sym, ◌∙◌, ap}
use native.Mathlib.Omega.{arith}
use Rattle.std.specs.Prelude.{Ok}
use Rattle.lists.specs.Parts.{part}
use Rattle.records.specs.Streams.{laid_out}
use Rattle.work.proofs.Handing.{handed_short, handed_long, part_long}
use Rattle.work.proofs.codings.PlainCoding.hand_over.Goals as goal

pub returns-then-buffer-len : goal.returns-then-buffer-len
returns-then-buffer-len c =
    let st = c.args.stream.now in
    let long = part_long _ _ _ _ st.mapped c.requires.0 in
    let h = handed_short (part c.args.from c.args.len (laid_out st.img.now st.map.now)) c.args.buffer.now (omega (arith, long, c.if-buffer-len.true)) in
    (h.0, h.1, omega (arith, long))

pub returns : goal.returns
returns c =
    let st = c.args.stream.now in
    let long = part_long _ _ _ _ st.mapped c.requires.0 in
    let h = handed_long (part c.args.from c.args.len (laid_out st.img.now st.map.now)) c.args.buffer.now (omega (arith, long, c.if-buffer-len.false)) in
    (ap Ok (sym long) ∙ h.0, c.read.ensures ∙ h.1, omega (arith, long))
