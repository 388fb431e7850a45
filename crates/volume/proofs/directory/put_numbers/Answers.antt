use mathlib.Core.Path.{ap, ◌∙◌}
use Prim.Native.Nat.{ℕ}
use Rattle.lists.specs.Parts.{put, bytes2}
use Rattle.volume.proofs.EntryWritten.{numbers_are}
use Rattle.volume.proofs.directory.put_numbers.Goals as goal

pub returns : goal.returns
returns c =
    numbers_are c.args.part.now _ _ _ _ _ c.args.read_code c.args.len c.args.s c.args.n c.requires.0
    c.ranges.read_code.fits (c.put_word.ensures ∙ ap (λ (x : ℕ). put 22 (bytes2 x) c.args.part.now) c.from.ensures)
    c.put_word-2.ensures c.put_word-3.ensures c.put_word-4.ensures c.put_word-5.ensures
