use mathlib.Core.Path.{sym, ◌∙◌}
use native.Mathlib.Omega.{arith}
use Rattle.std.specs.Prelude.{Ok, Err}
use Rattle.files.specs.declared.replace.ReplaceError.{ReplaceError}
use Rattle.work.proofs.Updates.{replaced_there, passed_on, update_came}
use Rattle.files.proofs.Bounds.{records_few}
use Rattle.work.proofs.updating.replace_by.Goals as goal

pub returns-in_err-update_record : goal.returns-in_err-update_record
returns-in_err-update_record c =
    let why : ReplaceError = c.in_err-update_record.field-0.0 in
    rw (passed_on c.from_residual.result why c.from_residual.ensures.1)
    (update_came _ _ _ c.args.«data».now c.args.stored.now c.requires.1 _ (Err why) _ c.update_record.ensures
    c.in_err-update_record.was)

pub overflow_cast-result-2 : goal.overflow_cast-result-2
overflow_cast-result-2 c =
    omega (
      arith,
      replaced_there _ _ _ _ (sym c.update_record.ensures.0 ∙ c.in_ok-update_record.was),
      records_few _ _ _ c.requires.0 c.requires.1,
    )

pub returns : goal.returns
returns c =
    update_came _ _ _ c.args.«data».now c.args.stored.now c.requires.1 _ (Ok _) _ c.update_record.ensures
    c.in_ok-update_record.was
