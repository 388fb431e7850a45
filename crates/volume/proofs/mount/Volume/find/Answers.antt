use Rattle.std.proofs.Common.{◌≡◌, ◌∙◌, ap, length, arith}
use Rattle.std.specs.List.{position}
use Rattle.volume.specs.Directory.{entries, named}
use Rattle.volume.proofs.Slots.{count_slots}
use Rattle.volume.proofs.SearchAnswers.{position_found}
use Rattle.volume.proofs.mount.Volume.find.Goals as goal

pub first_named-requires : goal.first_named-requires
first_named-requires c = ap length c.entries.ensures ∙ count_slots _ _ c.args.self.now.located

pub returns : goal.returns
returns c =
    let v = c.args.self.now in
    let d = c.args.desc.now in
    rw c.entries.ensures at c.first_named.ensures ∙ position_found (named d) (entries v.img.now) _ (count_slots _ _ v.located)
