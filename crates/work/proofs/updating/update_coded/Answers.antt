use mathlib.Core.Path.{◌≡◌, ◌∙◌, sym, ap}
use mathlib.Core.Bool.{false, not}
use Rattle.volume.specs.Directory.{entry_at}
use Rattle.work.specs.Transfers.{unfit}
use Rattle.work.proofs.Updates.{update_wrong, update_fine}
use Rattle.work.proofs.updating.update_coded.Goals as goal

pub returns-then-not-may_send : goal.returns-then-not-may_send
returns-then-not-may_send g c =
    let e = entry_at c.args.image.now c.args.slot in
    let asked : unfit g.C.Coding.text e c.args.«data».now ≡ not c.may_send.result =
    rw (c.may_send.ensures, c.record_length.ensures.0, c.entry_of.ensures) (g.met.C.Coding.unfit_by e c.args.«data».now c.requires.1 c.requires.2) in
    update_wrong _ _ _ _ c.requires.1 _ (asked ∙ ap not c.if-not-may_send.true)

pub store-stored-requires : goal.store-stored-requires
store-stored-requires g c = (g.met.C.Coding.short _ _ (sym c.may_send.ensures ∙ c.if-not-may_send.false), c.requires.3)

pub replace_by-requires : goal.replace_by-requires
replace_by-requires g c = (c.requires.0, c.requires.1, g.met.C.Coding.short _ _ (sym c.may_send.ensures ∙ c.if-not-may_send.false))

pub returns : goal.returns
returns g c =
    let e = entry_at c.args.image.now c.args.slot in
    let bs = c.args.«data».now in
    let fine : unfit g.C.Coding.text e bs ≡ false =
    rw (c.may_send.ensures, c.record_length.ensures.0, c.entry_of.ensures) (g.met.C.Coding.unfit_by e bs c.requires.1 c.requires.2) ∙ ap not c.if-not-may_send.false in
    c.replace_by.ensures
    ∙ update_fine _ _ _ _ c.requires.1 _ _ fine (g.met.C.Coding.stored_by e bs c.requires.2 ∙ sym c.store-stored.ensures)
