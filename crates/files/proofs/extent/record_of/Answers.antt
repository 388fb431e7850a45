use mathlib.Core.Path.{◌∙◌}
use native.Mathlib.Omega.{arith}
use Rattle.files.proofs.slot.SlotInUse.{used_Opens, used_whole, used_small, used_stream, past_spot}
use Rattle.files.proofs.extent.record_of.Goals as goal

pub returns-then-record_count-i : goal.returns-then-record_count-i
returns-then-record_count-i c =
    let n = rw c.entry_of-e.ensures at c.record_count.ensures.0 in
    past_spot _ _ _ c.requires.0 c.requires.1 _ (omega (arith, n, c.if-record_count-i.true))

pub find_stream-requires : goal.find_stream-requires
find_stream-requires c =
    rw (c.start.ensures.0, c.record_length.ensures.0, c.entry_of-e.ensures)
    (used_Opens _ _ _ c.requires.0 c.requires.1, used_small _ _ _ c.requires.0 c.requires.1, used_whole _ _ _ c.requires.0 c.requires.1)

pub returns : goal.returns
returns c =
    c.find_stream.ensures ∙ rw (c.start.ensures.0, c.record_length.ensures.0, c.entry_of-e.ensures, used_stream _ _ _ c.requires.0 c.requires.1)
