use mathlib.Core.Path.{sym, ◌∙◌}
use native.Mathlib.Omega.{arith}
use Rattle.records.proofs.StreamBytes.{known}
use Rattle.ownership.specs.Blocks.{block}
use Rattle.files.proofs.replace.UpdateIs.{spot_past, replaced_past, spot_there, spot_long, replaced_other, used_distinct, spot_fits, put-updated, replaced_done}
use Rattle.files.proofs.slot.SlotInUse.{used_Opens}
use Rattle.files.proofs.replace.update_record.Goals as goal

pub returns-in_default : goal.returns-in_default
returns-in_default c =
    replaced_past _ _ _ _ _ _ (spot_past _ _ _ c.requires.0 c.requires.1 _ (sym c.record_of.ensures ∙ c.in_default.is))

pub returns-then-src-spot : goal.returns-then-src-spot
returns-then-src-spot c =
    let q = sym c.record_of.ensures ∙ c.in-Some.is in
    let b = known c.args.img.now c.slice_known-1.given in
    replaced_other _ _ _ _ _ _ (spot_there _ _ _ c.requires.0 c.requires.1 b _ _ q) _ (spot_long _ _ _ c.requires.0 c.requires.1 b _ _ q) c.if-src-spot.true

pub write_at-requires : goal.write_at-requires
unfolding block
write_at-requires c =
    let q = sym c.record_of.ensures ∙ c.in-Some.is in
    let b = known c.args.img.now c.slice_known-1.given in
    let f = spot_fits _ _ _ c.requires.0 c.requires.1 b _ _ q in
    rw (c.start.ensures.0, c.entry_of.ensures) (
      used_Opens _ _ _ c.requires.0 c.requires.1,
      used_distinct _ _ _ c.requires.0 c.requires.1,
      omega (arith, f, c.if-src-spot.false),
    )

pub returns : goal.returns
returns c =
    let q = sym c.record_of.ensures
    ∙ c.in-Some.is in
    let b = known c.args.img.now c.slice_known-1.given in
    let n = c.if-src-spot.false in
    let x = rw (c.start.ensures.0, c.entry_of.ensures, put-updated _ _ _ c.requires.0 c.requires.1 b _ _ q c.args.src.now n) at
    c.write_at.ensures in
    let g = replaced_done _ _ _ _ c.args.img.now _ (spot_there _ _ _ c.requires.0 c.requires.1 b _ _ q) _ (spot_long _ _ _ c.requires.0 c.requires.1 b _ _ q) n in
    (g.0, x ∙ g.1)
