use Rattle.std.proofs.Common.{◌≡◌, ◌+◌, ◌-◌, ◌<◌, ℕ, List, Bool, [], length, get_or, false, not, arith, refl, ap, sym, ◌∙◌, rules, tests}
use Rattle.std.proofs.lemmas.Iterator.{YieldsList-from_range}
use Rattle.std.proofs.lemmas.Iterator.Search.{all_from_yields_List}
use Rattle.volume.specs.Directory.{unused, clashes, described, named}
use Rattle.volume.specs.Code.Used.{used_entries}
use Rattle.volume.proofs.clashes.FileNumbers.{used_clash}
use Rattle.volume.proofs.used.UsedSlots.{listed_length, listed_used}
use Rattle.volume.proofs.used.Walked.{all_walked}
use Rattle.volume.proofs.used.Used.is_alone.Goals as goal

pub returns : goal.returns
returns c =
    let u = c.args.self.now in
    let img = u.volume.img.now in
    let i = c.args.i in
    let name : List ℕ = c.described-name.result.now in
    let e : List ℕ = get_or (used_entries img) i [] in
    let is : name ≡ described e = c.described-name.ensures.0 ∙ ap described c.entry.ensures in
    let long = listed_length img u.slots.now u.listed in
    let used : (j : ℕ) → j < length u.slots.now → unused (get_or (used_entries img) j []) ≡ false =
    λ j h. listed_used img u.volume.p u.volume.located u.slots.now u.listed j h in
    let differs : ℕ → Bool = λ j. not (named name (get_or (used_entries img) j [])) in
    let at : (j : ℕ) → j < length (used_entries img) → differs j ≡ not (clashes e (get_or (used_entries img) j [])) =
    λ j h. ap (λ (n : List ℕ). not (named n (get_or (used_entries img) j []))) is ∙ ap not (sym (used_clash _ _ (used i c.requires) (used j (omega (arith, long))))) in
    all_from_yields_List differs _ _ c.all.result c.all.ensures.ran
    (YieldsList-from_range (i + 1) (length u.slots.now) (length u.slots.now - (i + 1)) refl refl) (λ x b q k. search (rules, tests))
    ∙ all_walked differs (λ d. not (clashes e d)) (used_entries img) at _ (i + 1) (omega (arith, long, c.requires))
