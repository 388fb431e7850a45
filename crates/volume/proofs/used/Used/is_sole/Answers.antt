use Rattle.std.proofs.Common.{◌+◌, ap, sym, ◌∙◌, not}
use Rattle.lists.proofs.LentParts.{lent_rest}
use Rattle.volume.specs.Code.Used.{file_numbers}
use Rattle.volume.proofs.used.UsedSlots.{listed_few}
use Rattle.volume.proofs.clashes.FileNumbers.{numbers_later}
use Rattle.volume.proofs.used.Used.is_sole.Goals as goal

pub returns-then-not-occurs : goal.returns-then-not-occurs
returns-then-not-occurs c =
    let u = c.args.self.now in
    let img = u.volume.img.now in
    let h = listed_few img _ u.volume.located _ u.listed c.args.i c.requires.rank in
    let o = sym c.occurs.ensures ∙ c.if-not-occurs.true in
    ap not c.if-not-occurs.true ∙ sym (numbers_later img c.args.i h (rw (c.requires.numbers, lent_rest (c.args.i + 1) (file_numbers img)) at o))
