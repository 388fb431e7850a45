use mathlib.Core.Path.{◌∙◌}
use native.Mathlib.Omega.{arith}
use lib.ListN.{length-take, drop}
use Rattle.lists.proofs.LentParts.{wrote}
use Rattle.lists.proofs.Walks.{over_all}
use Rattle.volume.proofs.EntryWritten.{fields_are}
use Rattle.volume.proofs.directory.put_fields.Goals as goal

pub returns : goal.returns
returns c =
    let a = c.args in
    fields_are a.part.now _ _ _ a.desc.now a.kind a.read_code a.len a.s a.n c.requires.0 c.requires.1 c.requires.2
    c.put_word.ensures
    (wrote 2 22 _ _ a.desc.now (omega arith) (c.copy_in.ensures
    ∙ over_all _ _ (omega (arith, length-take 20 (drop 2 c.put_word.new.s))))
    (omega arith)) c.put_numbers.ensures
