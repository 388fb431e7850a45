use mathlib.Core.Path.{sym, ◌∙◌}
use lib.Dec.{ltb}
use Rattle.std.proofs.Common.{rules, tests}
use Rattle.std.proofs.lemmas.Iterator.{YieldsList-from_slice}
use Rattle.std.proofs.lemmas.Iterator.Search.{all_from_yields_List}
use Rattle.lists.proofs.Iterators.{all_is}
use Rattle.text.specs.Packing.{is_text, mark}
use Rattle.text.proofs.packing.is_text.Goals as goal

pub returns : goal.returns
unfolding is_text
returns c =
    all_from_yields_List (λ b. ltb b mark) _ _ _ c.all.ensures.ran (YieldsList-from_slice c.args.bytes.now cc) (λ x b q k. search (rules, tests))
    ∙ sym (all_is _ _)
