use mathlib.Core.Path.{ap, ◌∙◌, sym}
use Prim.Native.Nat.{◌<◌}
use native.Mathlib.Omega.{arith}
use lib.ListN.{length}
use Rattle.volume.specs.Directory.{entries, entry_at}
use Rattle.volume.proofs.Slots.{length-entries}
use Rattle.ownership.specs.Code.Held.{held_by}
use Rattle.ownership.proofs.Freeing.{held_is_run, held_is_chain, held_is_none, freed_none, freed}
use Rattle.ownership.proofs.OwnedRuns.{placed_entry}
use Rattle.ownership.proofs.owners.free_owned.Goals as goal

pub set_run_in-requires : goal.set_run_in-requires
set_run_in-requires c =
    let a = c.args in
    let img = a.img.now in
    let l = c.requires.0 in
    let g = sym (c.held_by.ensures ∙ ap held_by c.entry_of.ensures) in
    let n : a.k < length (entries img) = omega (arith, length-entries img, l.is_dirs) in
    let o = placed_entry img a.k c.requires.1 n in
    let f = held_is_run img (entry_at img a.k) a.p.t l.long o _ _ (g ∙ c.in-Run.is) in
    (omega (arith, l.long, l.sat_in), omega (arith, f.0, l.high))

pub free_chain-requires : goal.free_chain-requires
free_chain-requires c =
    let a = c.args in
    let img = a.img.now in
    let l = c.requires.0 in
    let g = sym (c.held_by.ensures ∙ ap held_by c.entry_of.ensures) in
    let n : a.k < length (entries img) = omega (arith, length-entries img, l.is_dirs) in
    let o = placed_entry img a.k c.requires.1 n in
    let f = held_is_chain img (entry_at img a.k) a.p.t l.long o _ (g ∙ c.in-Chain.is) in
    (l.long, l.sat_in, f.0, l.high, f.1)

pub returns-in-Nothing : goal.returns-in-Nothing
returns-in-Nothing c =
    let a = c.args in
    let img = a.img.now in
    let l = c.requires.0 in
    let g = sym (c.held_by.ensures ∙ ap held_by c.entry_of.ensures) in
    let n : a.k < length (entries img) = omega (arith, length-entries img, l.is_dirs) in
    let o = placed_entry img a.k c.requires.1 n in
    freed_none img a.p l _ (held_is_none img (entry_at img a.k) a.p.t l.long o (g ∙ c.in-Nothing.is))

pub returns-in-Run : goal.returns-in-Run
returns-in-Run c =
    let a = c.args in
    let img = a.img.now in
    let l = c.requires.0 in
    let g = sym (c.held_by.ensures
    ∙ ap held_by c.entry_of.ensures) in
    let n : a.k < length (entries img) = omega (arith, length-entries img, l.is_dirs) in
    let o = placed_entry img a.k c.requires.1 n in
    let f = held_is_run img (entry_at img a.k) a.p.t l.long o _ _ (g ∙ c.in-Run.is) in
    freed img a.p l _ _ _ c.set_run_in.ensures f.1

pub returns-in-Chain : goal.returns-in-Chain
returns-in-Chain c =
    let a = c.args in
    let img = a.img.now in
    let l = c.requires.0 in
    let g = sym (c.held_by.ensures
    ∙ ap held_by c.entry_of.ensures) in
    let n : a.k < length (entries img) = omega (arith, length-entries img, l.is_dirs) in
    let o = placed_entry img a.k c.requires.1 n in
    let f = held_is_chain img (entry_at img a.k) a.p.t l.long o _ (g ∙ c.in-Chain.is) in
    freed img a.p l _ _ _ c.free_chain.ensures f.2
