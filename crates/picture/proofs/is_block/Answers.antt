use Rattle.std.proofs.Common.{◌≡◌, ◌∙◌, sym, rules, tests}
use Rattle.std.proofs.lemmas.Iterator.{YieldsList-from_slice}
use Rattle.std.proofs.lemmas.Iterator.Search.{any_from_yields_List}
use Rattle.std.specs.List.{list_any}
use Rattle.lists.proofs.Iterators.{some_is}
use Rattle.volume.specs.Directory.{entries}
use Rattle.picture.specs.Picture.{is_block}
use Rattle.picture.proofs.is_block.Goals as goal

pub returns : goal.returns
returns c =
    let b = is_block c.args.x in
    let q : c.any.result ≡ list_any b c.entries.result.now =
    any_from_yields_List b _ _ c.any.result c.any.ensures.ran (YieldsList-from_slice c.entries.result.now cc)
    (λ x r q k. search (rules, tests)) in
    rw c.entries.ensures at q ∙ sym (some_is b (entries c.args.v.now.img.now))
