use Rattle.files.proofs.appending.AppendSteps.{taken_all}
use Rattle.files.proofs.appending.take_sectors.Goals as goal

pub returns : goal.returns
returns c =
    let a = c.args in
    taken_all a.img.now a.sat a.s a.ss.now c.requires.0 a.e _ _ _
    c.grow_in.ensures c.mark_all.ensures
    c.zero_all.ensures
