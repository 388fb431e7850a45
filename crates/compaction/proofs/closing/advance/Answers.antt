use Rattle.std.proofs.Common.{◌≡◌, true, false, is_ok, refl, sym, ◌∙◌, rules}
use mathlib.Core.Bool.{true≢false}
use native.Mathlib.Omega.{arith}
use borrow.Author.Tests.{not-true}
use Rattle.compaction.proofs.closing.StepMade.{high_in, low_in, file_InUse, file_sequential, movable, step_answer, step_image, step_table}
use Rattle.compaction.proofs.closing.advance.Goals as goal

pub bounds-who-hi : goal.bounds-who-hi
bounds-who-hi c = omega (arith, high_in _ _ _ _ _ c.requires)

pub number_in-i-requires : goal.number_in-i-requires
number_in-i-requires c =
    let e = c.from-k.ensures in
    (file_InUse _ _ _ _ _ c.requires _ e, file_sequential _ _ _ _ _ c.requires _ e)

pub relocate-requires : goal.relocate-requires
relocate-requires c = movable _ _ _ _ _ c.requires _ c.from-k.ensures _ c.number_in-i.ensures

pub returns-in_err-relocate : goal.returns-in_err-relocate
returns-in_err-relocate c =
    let e = c.from-k.ensures in
    let i = c.number_in-i.ensures in
    let k : is_ok c.from_residual.result ≡ false = search rules in
    let f : is_ok c.relocate.result ≡ false = rw c.in_err-relocate.was in
    rw k (record {
      answer = sym f ∙ step_answer _ _ _ _ _ c.requires _ e _ i (is_ok c.relocate.result) c.relocate.ensures.answer;
      image = rw f at (step_image _ _ _ _ _ c.requires _ e _ i (is_ok c.relocate.result) _ c.relocate.ensures.image);
      tabled = λ z. absurd (true≢false (sym z));
    })

pub bounds-who-lo : goal.bounds-who-lo
bounds-who-lo c = omega (arith, low_in _ _ _ _ _ c.requires)

pub bounds-who-hi-2 : goal.bounds-who-hi-2
bounds-who-hi-2 c = omega (arith, high_in _ _ _ _ _ c.requires)

pub returns : goal.returns
returns c =
    let e = c.from-k.ensures in
    let i = c.number_in-i.ensures in
    let f : is_ok c.relocate.result ≡ true = rw c.in_ok-relocate.was in
    let a = sym f ∙ step_answer _ _ _ _ _ c.requires _ e _ i (is_ok c.relocate.result) c.relocate.ensures.answer in
    record {
      answer = a;
      image = rw f at (step_image _ _ _ _ _ c.requires _ e _ i (is_ok c.relocate.result) _ c.relocate.ensures.image);
      tabled = λ z. step_table _ _ _ _ _ c.requires _ refl _ refl (not-true _ (sym a));
    }
