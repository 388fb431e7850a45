use Rattle.moves.proofs.rerouting.RunsPushed.{takes_run}
use Rattle.moves.proofs.rerouting.push_run.Goals as goal

pub extend_run-requires : goal.extend_run-requires
extend_run-requires c = takes_run _ c.requires.0 _ _ c.requires.1
