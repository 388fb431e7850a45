use mathlib.Core.Path.{sym, ap, ◌∙◌}
use native.Mathlib.Omega.{arith}
use Rattle.picture.proofs.Letters.{letter_system, letter_free, letter_data, letter_rest}
use mathlib.Core.Bool.{not}
use Rattle.picture.proofs.letter_at.Goals as goal

pub returns-then-in_system : goal.returns-then-in_system
returns-then-in_system c = letter_system _ _ c.args.v.now.located _ c.in_system.ensures c.if-in_system.true

pub returns-then-not-marked : goal.returns-then-not-marked
returns-then-not-marked c =
    letter_free _ _ c.args.v.now.located _ c.in_system.ensures c.if-in_system.false c.table.ensures c.marked.ensures
    (ap not c.if-not-marked.true)

pub returns-then-k-v : goal.returns-then-k-v
returns-then-k-v c =
    let h = c.from-k.ensures ∙ c.requires.0.says c.args.x (omega arith) in
    c.slot_letter.ensures ∙ letter_data _ _ c.args.v.now.located _ c.in_system.ensures c.if-in_system.false c.table.ensures c.marked.ensures
    (ap not c.if-not-marked.false) h
    c.if-k-v.true

pub returns-then-is_block : goal.returns-then-is_block
returns-then-is_block c =
    let h = c.from-k.ensures ∙ c.requires.0.says c.args.x (omega arith) in
    letter_rest _ _ c.args.v.now.located _ c.in_system.ensures c.if-in_system.false c.table.ensures c.marked.ensures (ap not c.if-not-marked.false) h
    c.if-k-v.false (sym c.if-is_block.true ∙ c.is_block.ensures)

pub returns-else-is_block : goal.returns-else-is_block
returns-else-is_block c =
    let h = c.from-k.ensures ∙ c.requires.0.says c.args.x (omega arith) in
    letter_rest _ _ c.args.v.now.located _ c.in_system.ensures c.if-in_system.false c.table.ensures c.marked.ensures (ap not c.if-not-marked.false) h
    c.if-k-v.false (sym c.if-is_block.false ∙ c.is_block.ensures)
