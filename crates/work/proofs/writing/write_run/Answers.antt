use mathlib.Core.Path.{sym, ◌∙◌, ◌≡◌}
use mathlib.Core.Bool.{false}
use Prim.Native.Nat.{◌/◌}
use native.Mathlib.Omega.{arith}
use lib.ListN.{length}
use Rattle.volume.specs.Directory.{entry_at, size}
use Rattle.work.specs.Transfers.{odd_length}
use Rattle.work.specs.Code.Runs.{crosses}
use Rattle.work.proofs.Writes.{run_odd, odd_few, run_crosses, run_bytes, run_start, run_written}
use Rattle.files.proofs.Bounds.{run_few}
use Rattle.work.proofs.writing.write_run.Goals as goal

pub returns-then-odd_length : goal.returns-then-odd_length
returns-then-odd_length c =
    let pre = c.requires in
    run_odd _ _ _ _ pre.1 (sym c.odd_length.ensures ∙ c.if-odd_length.true)

pub crosses-requires : goal.crosses-requires
crosses-requires c =
    let whole : odd_length (length c.args.«data».now) ≡ false =
    sym c.odd_length.ensures ∙ c.if-odd_length.false in
    (omega (arith, rw c.entry_of.ensures at c.size.ensures.0, run_few _ _ _ c.requires.0 c.requires.1), (odd_few _ whole).0)

pub returns-then-crosses : goal.returns-then-crosses
returns-then-crosses c =
    let whole : odd_length (length c.args.«data».now) ≡ false =
    sym c.odd_length.ensures ∙ c.if-odd_length.false in
    let crossed : (let a = c.args in
    crosses (size (entry_at a.image.now a.slot)) a.i (length a.«data».now / 256) ≡ c.crosses.result) =
    rw (← (rw c.entry_of.ensures at c.size.ensures.0)) (sym c.crosses.ensures) in
    run_crosses _ _ _ _ c.requires.1 whole (crossed ∙ c.if-crosses.true)

pub overwrite-requires : goal.overwrite-requires
overwrite-requires c =
    let whole : odd_length (length c.args.«data».now) ≡ false =
    sym c.odd_length.ensures ∙ c.if-odd_length.false in
    let crossed : (let a = c.args in
    crosses (size (entry_at a.image.now a.slot)) a.i (length a.«data».now / 256) ≡ c.crosses.result) =
    rw (← (rw c.entry_of.ensures at c.size.ensures.0)) (sym c.crosses.ensures) in
    (c.requires.0, c.requires.1, run_bytes _ _ _ whole (crossed ∙ c.if-crosses.false))

pub overflow_cast-result : goal.overflow_cast-result
overflow_cast-result c =
    let whole : odd_length (length c.args.«data».now) ≡ false =
    sym c.odd_length.ensures ∙ c.if-odd_length.false in
    omega (arith, (odd_few _ whole).1)

pub overflow_cast-result-2 : goal.overflow_cast-result-2
overflow_cast-result-2 c =
    let crossed : (let a = c.args in
    crosses (size (entry_at a.image.now a.slot)) a.i (length a.«data».now / 256) ≡ c.crosses.result) =
    rw (← (rw c.entry_of.ensures at c.size.ensures.0)) (sym c.crosses.ensures) in
    omega (arith, run_start _ _ _ (crossed ∙ c.if-crosses.false), run_few _ _ _ c.requires.0 c.requires.1)

pub overflow_cast-result-3 : goal.overflow_cast-result-3
overflow_cast-result-3 c =
    let whole : odd_length (length c.args.«data».now) ≡ false =
    sym c.odd_length.ensures ∙ c.if-odd_length.false in
    omega (arith, (odd_few _ whole).0)

pub returns : goal.returns
returns c =
    let whole : odd_length (length c.args.«data».now) ≡ false =
    sym c.odd_length.ensures ∙ c.if-odd_length.false in
    let crossed : (let a = c.args in
    crosses (size (entry_at a.image.now a.slot)) a.i (length a.«data».now / 256) ≡ c.crosses.result) =
    rw (← (rw c.entry_of.ensures at c.size.ensures.0)) (sym c.crosses.ensures) in
    rw c.overwrite.ensures
    (run_written _ _ _ _ c.requires.1 whole (crossed ∙ c.if-crosses.false))
