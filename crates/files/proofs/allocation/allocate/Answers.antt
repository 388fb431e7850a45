use Rattle.files.proofs.allocation.FileAllocated.{allocated_is}
use Rattle.files.proofs.allocation.allocate.Goals as goal

pub returns : goal.returns
returns c =
    allocated_is c.requires c.args.read_code _ _ _ _ c.taken-n.ensures c.zero_run.ensures c.set_run_in.ensures
    c.put_entry.ensures
