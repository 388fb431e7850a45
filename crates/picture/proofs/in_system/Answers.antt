use Rattle.std.proofs.Common.{sym, ◌∙◌}
use borrow.Author.Tests.{le-leb, lt-leb}
use Rattle.lists.proofs.Steps.{and_passed, and_failed}
use Rattle.picture.proofs.Letters.{system_first, system_rest}
use Rattle.picture.proofs.in_system.Goals as goal

pub returns-then-contains : goal.returns-then-contains
returns-then-contains c = system_first c.args.p c.args.x _ c.contains.ensures.value c.if-contains.true

pub returns-then-p-x : goal.returns-then-p-x
returns-then-p-x c =
    system_rest c.args.p c.args.x _ c.contains.ensures.value c.if-contains.false _ (sym (and_passed _ _ (le-leb c.args.p.dir c.args.x c.if-p-x.true)))

pub returns-else-p-x : goal.returns-else-p-x
returns-else-p-x c =
    let l = lt-leb c.args.p.dir c.args.x c.if-p-x.false in
    system_rest c.args.p c.args.x _ c.contains.ensures.value c.if-contains.false _ (l ∙ sym (and_failed _ _ l))
