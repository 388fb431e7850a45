use Rattle.std.proofs.Common.{arith, ap, length}
use Rattle.volume.specs.Directory.{entry_at}
use Rattle.volume.proofs.Slots.{count_slots}
use Rattle.volume.proofs.mount.Volume.entry.Goals as goal

pub bounds-entries-k : goal.bounds-entries-k
bounds-entries-k c = omega (arith, ap length c.entries.ensures, count_slots _ _ c.args.self.now.located, c.requires)

pub returns : goal.returns
unfolding entry_at
returns c = rw c.entries.ensures
