use mathlib.Core.Path.{ap, sym, ◌∙◌}
use Rattle.files.specs.Rights.{has_right}
use Rattle.files.proofs.SoundFacts.{facts}
use Rattle.work.specs.Refusals.{ruled}
use Rattle.desk.specs.Answers.{judged}
use Rattle.desk.specs.Calls.{remove_rules, quietly}
use Rattle.desk.specs.Code.Left.{remove_left}
use Rattle.desk.proofs.Desk.remove.Goals as goal

pub returns-then-not-has_right : goal.returns-then-not-has_right
unfolding remove_left remove_rules judged ruled
returns-then-not-has_right c =
    rw (sym (c.has_right.ensures ∙ ap (has_right _) c.user_of.ensures.0) ∙ c.if-not-has_right.true)

pub returns-then-is_held : goal.returns-then-is_held
unfolding remove_left remove_rules judged ruled
returns-then-is_held c =
    rw (
      sym (c.has_right.ensures ∙ ap (has_right _) c.user_of.ensures.0) ∙ c.if-not-has_right.false,
      sym
          c.is_held.ensures ∙ c.if-is_held.true,
    )

pub delete-requires : goal.delete-requires
delete-requires c =
    let pre = c.requires in
    let u = pre.0 in
    (u.located, (facts _ u.is_sound).three, u.slot)

pub returns : goal.returns
unfolding remove_left remove_rules quietly judged ruled
returns c =
    rw (
      c.delete.ensures,
      sym (c.has_right.ensures ∙ ap (has_right _) c.user_of.ensures.0)
          ∙ c.if-not-has_right.false,
      sym c.is_held.ensures ∙ c.if-is_held.false,
    )
