use mathlib.Core.Path.{refl, sym, ap, ◌∙◌}
use mathlib.Core.Bool.{true≢false}
use lib.Dec.{leb}
use borrow.Author.Tests.{ne_eqb}
use Rattle.numbers.specs.Numbers.{last_user}
use Rattle.volume.proofs.NameBytes.{descriptor_not, descriptor_is}
use Rattle.volume.proofs.Tests.{met, unmet}
use Rattle.volume.proofs.names.descriptor.Goals as goal
use Rattle.volume.proofs.names.descriptor.Goals.{then-d-eq20, else-d-eq20}

pub returns-then-user_of : goal.returns-then-user_of
returns-then-user_of c =
    elim c.if-d-eq20.branch [
      | then-d-eq20 w ↦
          met c.if-user_of.true (w.value-is ∙ ap (λ n. leb n last_user) w.user_of.ensures.0) refl c.names_in.ensures
          ∙ sym (descriptor_is _ w.if-d-eq20.true)
      | else-d-eq20 w ↦ absurd (true≢false (sym c.if-user_of.true ∙ w.value-is ∙ ne_eqb _ _ w.if-d-eq20.false))
    ]

pub returns-else-user_of : goal.returns-else-user_of
returns-else-user_of c =
    elim c.if-d-eq20.branch [
      | then-d-eq20 w ↦
          unmet _ c.if-user_of.false (w.value-is ∙ ap (λ n. leb n last_user) w.user_of.ensures.0) refl ∙ sym (descriptor_is _ w.if-d-eq20.true)
      | else-d-eq20 w ↦ w.value-is ∙ ne_eqb _ _ w.if-d-eq20.false ∙ sym (descriptor_not _ w.if-d-eq20.false)
    ]
