use Rattle.std.proofs.Common.{◌≡◌, ◌∙◌, rules, tests}
use Rattle.std.proofs.lemmas.Iterator.{YieldsList-from_slice}
use Rattle.std.proofs.lemmas.Iterator.Search.{position_from_yields_List}
use Rattle.std.specs.List.{position}
use Rattle.volume.specs.Directory.{entries, unused}
use Rattle.volume.proofs.Slots.{count_slots}
use Rattle.volume.proofs.SearchAnswers.{position_found}
use Rattle.volume.proofs.mount.Volume.lowest_unused.Goals as goal

pub returns : goal.returns
returns c =
    let v = c.args.self.now in
    let q : c.position.result ≡ position unused c.entries.result.now =
    position_from_yields_List unused _ _ c.position.result c.position.ensures.ran (YieldsList-from_slice c.entries.result.now cc)
    (λ x b q k. search (rules, tests)) in
    rw c.entries.ensures at q ∙ position_found unused (entries v.img.now) _ (count_slots _ _ v.located)
