use Rattle.files.proofs.map.OpenBlock.{loaded_map}
use Rattle.files.proofs.map.map_of.Goals as goal

pub returns : goal.returns
returns c = loaded_map _ _ c.requires _ _ _ c.load_map-n.ensures.0 c.load_map-n.ensures.1
