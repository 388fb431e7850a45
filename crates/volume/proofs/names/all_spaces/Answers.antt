use Rattle.std.proofs.Common.{ℕ, ◌∙◌, sym, rules, tests, eqb}
use Rattle.std.proofs.lemmas.Iterator.{YieldsList-from_slice}
use Rattle.std.proofs.lemmas.Iterator.Search.{all_from_yields_List}
use Rattle.lists.proofs.Iterators.{all_is}
use Rattle.volume.proofs.names.all_spaces.Goals as goal

pub returns : goal.returns
returns c =
    all_from_yields_List (λ (x : ℕ). eqb x 32) _ _ c.all.result c.all.ensures.ran (YieldsList-from_slice c.args.s.now cc)
    (λ x b q k. search (rules, tests))
    ∙ sym (all_is (λ (x : ℕ). eqb x 32) c.args.s.now)
