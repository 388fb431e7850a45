use mathlib.Core.Path.{◌≡◌, sym}
use Prim.Native.Nat.{◌-◌, ◌<◌}
use native.Mathlib.Omega.{arith}
use lib.ListN.{length}
use Rattle.volume.specs.Directory.{entries}
use Rattle.volume.proofs.Slots.{count_slots}
use Rattle.ownership.proofs.OwnedRuns.{placed_entry}
use Rattle.compaction.proofs.holders.HolderTable.{holders_more, holders_none, Holders-all}
use Rattle.compaction.proofs.holders.fill_holders.Goals as goal

pub loop-k-init : goal.loop-k-init
loop-k-init c =
    let v = c.args.v.now in
    holders_none v.img.now _ _ _ (omega arith) (sym (count_slots v.img.now v.p v.located)) (c.fill.ensures.after (λ y e. e))

pub give_entry-requires : goal.give_entry-requires
give_entry-requires c =
    let l = c.loop-k in
    let v = c.args.v.now in
    let n : l.k - 1 < length (entries v.img.now) = omega (arith, count_slots v.img.now v.p v.located) in
    rw c.entry.ensures (placed_entry v.img.now (l.k - 1) c.requires n)

pub loop-k-preserved : goal.loop-k-preserved
loop-k-preserved c =
    let l = c.loop-k in
    let v = c.args.v.now in
    let n : l.k - 1 < length (entries v.img.now) = omega (arith, count_slots v.img.now v.p v.located) in
    holders_more v.img.now _ _ l.k (l.k - 1) n (omega arith) l.invariant (rw c.entry.ensures at c.give_entry.ensures)

pub returns : goal.returns
returns c =
    let l = c.loop-k in
    let z : l.k ≡ 0 = omega arith in
    Holders-all _ _ (rw z at l.invariant)
