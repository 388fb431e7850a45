use mathlib.Core.Path.{◌≡◌, refl}
use Rattle.lists.specs.Parts.{part}
use Rattle.lists.specs.Lists.{◌and◌, ◌or◌}
use Rattle.volume.specs.Names.{name, spaces}
use Rattle.volume.proofs.Tests.{met, unmet, or_met, or_unmet}
use Rattle.volume.proofs.names.names_in.Goals as goal
use Rattle.volume.proofs.names.names_in.Goals.{then-name, else-name, then-all_spaces, else-all_spaces}

pub returns-then-name-2 : goal.returns-then-name-2
unfolding part
returns-then-name-2 c =
    let d = c.args.d.now in
    let one : c.if-name.value ≡ name (part 2 8 d) or spaces (part 2 8 d) = elim c.if-name.branch [
      | then-name w ↦ or_met _ w.if-name.true c.name.ensures w.value-is
      | else-name w ↦ or_unmet w.if-name.false c.name.ensures w.value-is w.all_spaces.ensures
    ] in
    let two : c.if-all_spaces.value ≡ (name (part 2 8 d) or spaces (part 2 8 d)) and name (part 10 8 d) = elim c.if-all_spaces.branch [
      | then-all_spaces w ↦ met w.if-all_spaces.true one w.value-is w.name-then-all_spaces.ensures
      | else-all_spaces w ↦ unmet _ w.if-all_spaces.false one w.value-is
    ] in
    met c.if-name-2.true two refl c.name-then-name-2.ensures

pub returns-else-name-2 : goal.returns-else-name-2
unfolding part
returns-else-name-2 c =
    let d = c.args.d.now in
    let one : c.if-name.value ≡ name (part 2 8 d) or spaces (part 2 8 d) = elim c.if-name.branch [
      | then-name w ↦ or_met _ w.if-name.true c.name.ensures w.value-is
      | else-name w ↦ or_unmet w.if-name.false c.name.ensures w.value-is w.all_spaces.ensures
    ] in
    let two : c.if-all_spaces.value ≡ (name (part 2 8 d) or spaces (part 2 8 d)) and name (part 10 8 d) = elim c.if-all_spaces.branch [
      | then-all_spaces w ↦ met w.if-all_spaces.true one w.value-is w.name-then-all_spaces.ensures
      | else-all_spaces w ↦ unmet _ w.if-all_spaces.false one w.value-is
    ] in
    unmet _ c.if-name-2.false two refl
