use Rattle.std.proofs.Common.{◌≡◌, ℕ, List, Bool, [], length, get_or, false, arith, refl, sym, ◌∙◌, rules, tests}
use Rattle.std.proofs.lemmas.Iterator.{YieldsList-from_range}
use Rattle.std.proofs.lemmas.Iterator.Search.{all_from_yields_List}
use Rattle.lists.specs.Lists.{◌or◌}
use Rattle.lists.proofs.Tests.{or_first}
use Rattle.volume.specs.Directory.{unused, valid}
use Rattle.volume.specs.Code.Used.{used_entries}
use Rattle.volume.proofs.used.UsedSlots.{all_used, listed_length, listed_used}
use Rattle.volume.proofs.used.Walked.{all_walked}
use Rattle.volume.proofs.used.Used.are_valid.Goals as goal

abbrev good : List ℕ → Bool
good e = unused e or valid e

good_used : (e : List ℕ) → unused e ≡ false → valid e ≡ good e
unfolding ◌or◌
good_used e u = rw u

pub returns : goal.returns
unfolding used_entries
returns c =
    let u = c.args.self.now in
    let img = u.volume.img.now in
    let long = listed_length img u.slots.now u.listed in
    all_from_yields_List (λ (i : ℕ). valid (get_or (used_entries img) i [])) _ _ c.all.result c.all.ensures.ran
    (YieldsList-from_range 0 (length u.slots.now) (length u.slots.now) refl (omega arith)) (λ x b q k. search (rules, tests))
    ∙ all_walked _ good (used_entries img)
    (λ i h. good_used _ (listed_used img u.volume.p u.volume.located u.slots.now u.listed i (omega (arith, long)))) _ 0 (omega (arith, long))
    ∙ sym (all_used good _ (λ e z. or_first _ _ z))
