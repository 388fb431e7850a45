use mathlib.Core.Path.{ap}
use Prim.Native.Nat.{ℕ, ◌+◌, ◌*◌}
use native.Mathlib.Omega.{arith}
use borrow.Author.Rules.{rules}
use Rattle.lists.specs.Parts.{word}
use Rattle.ownership.proofs.BlockWriters.{last_length, wrote_longer}
use Rattle.ownership.proofs.blocks.lengthen.Goals as goal

pub put_word-requires : goal.put_word-requires
put_word-requires c =
    let e = ap (λ (k : ℕ). word c.args.f.now (6 + 4 * k)) c.segments.ensures.0 in
    let l = last_length c.args.f.now c.requires.0 c.requires.1 in
    (omega arith, omega arith)

pub returns : goal.returns
returns c =
    wrote_longer _ c.requires.0 (λ i. search rules) _ _ _ _
    c.segments.ensures.0 c.requires.1 c.word_at-len.ensures.0
    c.put_word.ensures
