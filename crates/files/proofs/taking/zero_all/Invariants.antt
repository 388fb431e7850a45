-- The loop's invariant: what zeros over the sectors from k on make of the image now, zeros over all of them made of it at first.
use mathlib.Core.Path.{◌≡◌}
use mathlib.Core.List.{[]}
use lib.ListN.{length, drop}
use Rattle.records.specs.Streams.{laid}
use Rattle.files.proofs.taking.zero_all.Given as goal

abbrev pub invariant-loop-s : goal.invariant-loop-s
invariant-loop-s l = (length l.img ≡ length l.initial.img) × (laid l.ss [] l.initial.img ≡ laid (drop l.s-index l.ss) [] l.img)
