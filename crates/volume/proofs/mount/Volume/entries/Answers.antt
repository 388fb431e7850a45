use Rattle.std.proofs.Common.{◌∙◌, ◌+◌, ◌*◌, arith}
use Rattle.lists.proofs.LentParts.{lent}
use Rattle.volume.proofs.EntryChunks.{entries_chunks}
use Rattle.volume.proofs.mount.Volume.entries.Goals as goal

pub returns : goal.returns
returns c =
    let p = c.args.self.now.p in
    let img = c.args.self.now.img.now in
    c.as_chunks.ensures.front ∙ entries_chunks img p c.args.self.now.located _ (lent (256 * p.dir) (256 * (p.dir + p.dirs)) (256 * p.dirs) img (omega arith))
