use native.Mathlib.Omega.{arith}
use Rattle.files.proofs.appending.AppendNumbers.{adds_fab, adds_most}
use Rattle.files.proofs.appending.AppendSteps.{steps_Taking, steps_low, steps_fits, steps_done}
use Rattle.files.proofs.appending.lengthen.Goals as goal

pub stream_end-end-requires : goal.stream_end-end-requires
stream_end-end-requires c = rw (c.start-s.ensures.0, c.entry_of-entry.ensures) (adds_fab _ c.args.p c.args.k _ c.requires.adds)

pub find_lowest-fresh-requires : goal.find_lowest-fresh-requires
find_lowest-fresh-requires c =
    let q = adds_most c.args.img.now c.args.p c.args.k c.args.r.now c.requires.adds in
    (c.requires.adds.file.located, rw c.needed_sectors-n.ensures c.requires.enough, omega (arith, c.needed_sectors-n.ensures))

pub take_sectors-requires : goal.take_sectors-requires
take_sectors-requires c =
    let a = c.args in
    let go = steps_Taking a.img.now a.p a.k a.r.now c.requires _ _ _ _ _ _ c.needed_sectors-n.ensures
    c.longer_length-e.ensures (rw c.entry_of-entry.ensures at c.start-s.ensures.0) (rw c.entry_of-entry.ensures at c.record_length-l.ensures.0)
    c.stream_end-end.ensures.0 c.find_lowest-fresh.ensures in (
      go,
      steps_low a.img.now a.p a.k a.r.now c.requires _ _ _ _ _ _ c.needed_sectors-n.ensures
          c.longer_length-e.ensures (rw c.entry_of-entry.ensures at c.start-s.ensures.0) (rw c.entry_of-entry.ensures at c.record_length-l.ensures.0)
          c.stream_end-end.ensures.0 c.find_lowest-fresh.ensures,
    )

pub write_last-requires : goal.write_last-requires
write_last-requires c =
    let a = c.args in
    steps_fits a.img.now a.p a.k a.r.now c.requires _ _ _ _ _ _ c.needed_sectors-n.ensures
    c.longer_length-e.ensures (rw c.entry_of-entry.ensures at c.start-s.ensures.0)
    (rw c.entry_of-entry.ensures at c.record_length-l.ensures.0) c.stream_end-end.ensures.0 c.find_lowest-fresh.ensures _
    c.take_sectors.ensures

pub returns : goal.returns
returns c =
    let a = c.args in
    steps_done a.img.now a.p a.k a.r.now c.requires _ _ _ _ _ _
    c.needed_sectors-n.ensures
    c.longer_length-e.ensures
    (rw c.entry_of-entry.ensures at c.start-s.ensures.0) (rw c.entry_of-entry.ensures at c.record_length-l.ensures.0)
    c.stream_end-end.ensures.0 c.find_lowest-fresh.ensures _ c.take_sectors.ensures _
    c.write_last.ensures
