use Prim.Native.Nat.{◌≤◌}
use Rattle.volume.specs.Directory.{entry_at}
use Rattle.volume.specs.Sat.{free}
use Rattle.files.specs.Changes.{needed}
use Rattle.work.proofs.Writes.{next_full, next_split, next_written}
use Rattle.work.proofs.writing.write_next.Goals as goal

pub returns-then-free_sectors-needed_sectors : goal.returns-then-free_sectors-needed_sectors
returns-then-free_sectors-needed_sectors c =
    let pre = c.requires in
    next_full _ _ _ _ _ pre.1.sequential
    (rw (c.free_sectors.ensures, c.needed_sectors.ensures) at c.if-free_sectors-needed_sectors.true)

pub returns-then-segments_after-gt-MOST_SEGMENTS : goal.returns-then-segments_after-gt-MOST_SEGMENTS
returns-then-segments_after-gt-MOST_SEGMENTS c =
    let enough : (let a = c.args in
    needed a.image.now (entry_at a.image.now a.slot) a.stored.now ≤ free a.image.now) =
    rw (c.free_sectors.ensures, c.needed_sectors.ensures) at c.if-free_sectors-needed_sectors.false in
    next_split _ _ _ _ _ c.requires.1.sequential enough (rw c.segments_after.ensures at c.if-segments_after-gt-MOST_SEGMENTS.true)

pub returns : goal.returns
returns c =
    let enough : (let a = c.args in
    needed a.image.now (entry_at a.image.now a.slot) a.stored.now ≤ free a.image.now) =
    rw (c.free_sectors.ensures, c.needed_sectors.ensures) at c.if-free_sectors-needed_sectors.false in
    rw c.append.ensures
    (next_written _ _ _ _ _ c.requires.1.sequential enough
    (rw c.segments_after.ensures at c.if-segments_after-gt-MOST_SEGMENTS.false))
