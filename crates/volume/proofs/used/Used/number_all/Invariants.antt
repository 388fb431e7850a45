-- The loop's invariant: the first i numbers are written.
use mathlib.Core.Path.{◌≡◌}
use lib.ListN.{length, drop}
use Rattle.lists.proofs.Fronts.{Front}
use Rattle.volume.specs.Code.Used.{file_numbers}
use Rattle.volume.proofs.used.Used.number_all.Given as goal

abbrev pub invariant-loop-i : goal.invariant-loop-i
invariant-loop-i l =
    (length l.numbers ≡ length l.initial.numbers) × Front (file_numbers l.self.volume.img.now) (drop l.i (file_numbers l.self.volume.img.now)) l.initial.numbers l.numbers l.i
