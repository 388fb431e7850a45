use mathlib.Core.Path.{◌≡◌, sym, ◌∙◌}
use native.Mathlib.Omega.{arith}
use Rattle.std.specs.Prelude.{Ok, Err}
use Rattle.lists.specs.Parts.{part}
use Rattle.volume.specs.Directory.{entry_at, start}
use Rattle.records.specs.Streams.{laid_out}
use Rattle.records.proofs.StreamBytes.{known}
use Rattle.files.specs.Files.{record_at}
use Rattle.files.proofs.replace.UpdateIs.{spot_past}
use Rattle.files.proofs.Bounds.{records_few}
use Rattle.work.specs.Transfers.{handed_as}
use Rattle.work.proofs.Copies.{opened, copy_mapped, copy_inside, copied}
use Rattle.work.proofs.Spots.{Told, told}
use Rattle.work.proofs.Handing.{refused_on, refused_as, handed_few}
use Rattle.work.proofs.Readings.{record_past, record_handed}
use Rattle.work.proofs.reading.read_coded.Goals as goal

pub returns-in_err-spot : goal.returns-in_err-spot
returns-in_err-spot g c =
    let why = refused_as _ _ _ c.from_residual.ensures.1 (rw c.in_err-spot.ensures.ok_part at c.in_err-spot.ensures.value) in
    rw why (record_past _ _ _ _ _ c.requires.1 (spot_past _ _ _ c.requires.0 c.requires.1 _ (sym c.record_of.ensures ∙ c.in_err-spot.ensures.ok_part)))

pub map_of-map-requires : goal.map_of-map-requires
map_of-map-requires g c = opened _ _ _ c.requires.0 c.requires.1 _ (rw c.entry_of.ensures at c.start.ensures.0)

pub invariant_of-hand_over : goal.invariant_of-hand_over
invariant_of-hand_over g c =
    let e = entry_at c.args.image.now c.args.slot in
    let told_of : Told c.args.image.now e c.args.i c.in_ok-spot.spot.from c.in_ok-spot.spot.len =
    told _ _ _ c.requires.0 c.requires.1 (known c.args.image.now c.type_inv.image) _ _
    (sym c.record_of.ensures ∙ c.in_ok-spot.ensures.ok_part) in
    let at : c.start.result ≡ start e = rw c.entry_of.ensures at c.start.ensures.0 in
    record {
      mapped = copy_mapped _ _ _ c.requires.0 c.requires.1 _ at _ c.map_of-map.ensures _ _ told_of.fits;
      bytes = known c.args.image.now c.type_inv.image;
    }

pub hand_over-requires : goal.hand_over-requires
hand_over-requires g c =
    let e = entry_at c.args.image.now c.args.slot in
    let told_of : Told c.args.image.now e c.args.i c.in_ok-spot.spot.from c.in_ok-spot.spot.len =
    told _ _ _ c.requires.0 c.requires.1 (known c.args.image.now c.type_inv.image) _ _
    (sym c.record_of.ensures ∙ c.in_ok-spot.ensures.ok_part) in
    let at : c.start.result ≡ start e = rw c.entry_of.ensures at c.start.ensures.0 in
    (copy_inside _ _ _ c.requires.0 c.requires.1 _ at _ c.map_of-map.ensures _ _ told_of.fits, told_of.short)

pub returns-in_err-n : goal.returns-in_err-n
returns-in_err-n g c =
    let e = entry_at c.args.image.now c.args.slot in
    let told_of : Told c.args.image.now e c.args.i c.in_ok-spot.spot.from c.in_ok-spot.spot.len =
    told _ _ _ c.requires.0 c.requires.1 (known c.args.image.now c.type_inv.image) _ _
    (sym c.record_of.ensures ∙ c.in_ok-spot.ensures.ok_part) in
    let at : c.start.result ≡ start e = rw c.entry_of.ensures at c.start.ensures.0 in
    let is : part c.in_ok-spot.spot.from c.in_ok-spot.spot.len (laid_out c.args.image.now c.map_of-map.result.now) ≡ record_at c.args.image.now e c.args.i =
    copied _ _ _ c.requires.0 c.requires.1 _ at _ c.map_of-map.ensures _ _ told_of.fits ∙ told_of.is in
    let handed_of : handed_as g.C.Coding.text e (record_at c.args.image.now e c.args.i) ≡ g.C.Coding.shown (record_at c.args.image.now e c.args.i) =
    g.met.C.Coding.handed_by e (record_at c.args.image.now e c.args.i) c.requires.2 in
    let why = c.in_err-n.field-0.0 in
    rw (refused_on _ _ c.from_residual-in_err-n.ensures.1, c.hand_over.ensures.1, is)
    (record_handed _ _ _ _ _ c.requires.1 _ handed_of told_of.there (Err why) (rw is at (sym c.in_err-n.was ∙ c.hand_over.ensures.0)))

pub overflow_cast-result : goal.overflow_cast-result
overflow_cast-result g c =
    let e = entry_at c.args.image.now c.args.slot in
    let told_of : Told c.args.image.now e c.args.i c.in_ok-spot.spot.from c.in_ok-spot.spot.len =
    told _ _ _ c.requires.0 c.requires.1 (known c.args.image.now c.type_inv.image) _ _
    (sym c.record_of.ensures ∙ c.in_ok-spot.ensures.ok_part) in
    let at : c.start.result ≡ start e = rw c.entry_of.ensures at c.start.ensures.0 in
    omega (arith, handed_few _ _ _ (sym c.in_ok-n.was ∙ c.hand_over.ensures.0), c.hand_over.ensures.2, told_of.short)

pub overflow_cast-result-2 : goal.overflow_cast-result-2
overflow_cast-result-2 g c =
    let e = entry_at c.args.image.now c.args.slot in
    let told_of : Told c.args.image.now e c.args.i c.in_ok-spot.spot.from c.in_ok-spot.spot.len =
    told _ _ _ c.requires.0 c.requires.1 (known c.args.image.now c.type_inv.image) _ _
    (sym c.record_of.ensures ∙ c.in_ok-spot.ensures.ok_part) in
    let at : c.start.result ≡ start e = rw c.entry_of.ensures at c.start.ensures.0 in
    omega (arith, told_of.there, records_few _ _ _ c.requires.0 c.requires.1)

pub returns : goal.returns
returns g c =
    let e = entry_at c.args.image.now c.args.slot in
    let told_of : Told c.args.image.now e c.args.i c.in_ok-spot.spot.from c.in_ok-spot.spot.len =
    told _ _ _ c.requires.0 c.requires.1 (known c.args.image.now c.type_inv.image) _ _
    (sym c.record_of.ensures ∙ c.in_ok-spot.ensures.ok_part) in
    let at : c.start.result ≡ start e = rw c.entry_of.ensures at c.start.ensures.0 in
    let is : part c.in_ok-spot.spot.from c.in_ok-spot.spot.len (laid_out c.args.image.now c.map_of-map.result.now) ≡ record_at c.args.image.now e c.args.i =
    copied _ _ _ c.requires.0 c.requires.1 _ at _ c.map_of-map.ensures _ _ told_of.fits ∙ told_of.is in
    let handed_of : handed_as g.C.Coding.text e (record_at c.args.image.now e c.args.i) ≡ g.C.Coding.shown (record_at c.args.image.now e c.args.i) =
    g.met.C.Coding.handed_by e (record_at c.args.image.now e c.args.i) c.requires.2 in
    rw (c.hand_over.ensures.1, is)
    (record_handed _ _ _ _ _ c.requires.1 _ handed_of told_of.there (Ok c.in_ok-n.n) (rw is at (sym c.in_ok-n.was ∙ c.hand_over.ensures.0)))
