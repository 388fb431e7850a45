use Rattle.desk.specs.Calls.{seat_of}
use Rattle.desk.proofs.assigning.seat_of.Goals as goal

pub returns : goal.returns
unfolding seat_of
returns c = rw c.start_of-place.ensures
