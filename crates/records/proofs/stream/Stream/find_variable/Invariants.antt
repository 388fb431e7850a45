-- The loop's invariant: p is the place of record k, and its run is known.
use mathlib.Core.Path.{◌≡◌}
use Prim.Native.Nat.{◌-◌, ◌%◌, ◌≤◌}
use lib.ListN.{length}
use Rattle.records.specs.Records.{records_of}
use Rattle.records.specs.Code.Walk.{place_of}
use Rattle.records.specs.Code.Mapped.{stream_in}
use Rattle.records.specs.Code.Runs.{run_from}
use Rattle.records.proofs.stream.Stream.find_variable.Given as goal

abbrev pub invariant-loop-k : goal.invariant-loop-k
invariant-loop-k l =
    (l._k ≤ l.i) × (l.p ≡ place_of 0 (stream_in l.self.img.now l.self.map.now l.e) l._k) × (l._k ≤ length (records_of 0 (stream_in l.self.img.now l.self.map.now l.e))) × (l.p ≤ l.e) × (l.p % 2 ≡ 0) × (l.run ≡ run_from l.self.map.now l.p)

abbrev pub decreases-loop-k : goal.decreases-loop-k
decreases-loop-k l = l.i - l._k
