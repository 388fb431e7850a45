use Rattle.files.proofs.SoundFacts.{facts}
use Rattle.compaction.proofs.closing.compact.Goals as goal

pub fill_holders-requires : goal.fill_holders-requires
fill_holders-requires c = (facts c.args.img.now c.requires.1).three
