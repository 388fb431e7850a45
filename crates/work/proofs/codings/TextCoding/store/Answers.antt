use Rattle.lists.proofs.Fronts.{over_front}
use Rattle.text.specs.Packing.{packed}
use Rattle.work.proofs.codings.TextCoding.store.Goals as goal

pub returns : goal.returns
returns c = rw (c.pack-n.ensures.2, c.pack-n.ensures.0) (over_front (packed c.args.bytes.now) _)
