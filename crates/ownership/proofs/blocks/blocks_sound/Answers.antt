use Rattle.std.proofs.Common.{ℕ, [], length, get_or, arith, refl, ap, sym, ◌∙◌, rules, tests}
use Rattle.std.proofs.lemmas.Iterator.{YieldsList-from_range, serves_from_Range}
use Rattle.std.proofs.lemmas.Iterator.Search.{all_from_yields_List}
use Rattle.volume.specs.Directory.{entries, unused}
use Rattle.volume.specs.Code.Used.{used_entries}
use Rattle.volume.proofs.used.UsedSlots.{all_used, listed_length, listed_used}
use Rattle.volume.proofs.used.Walked.{all_walked}
use Rattle.ownership.specs.Blocks.{placed, sound3}
use Rattle.ownership.proofs.BlockTests.{placed-unused}
use Rattle.ownership.proofs.blocks.blocks_sound.Goals as goal

pub all-requires-clause-callable : goal.all-requires-clause-callable
all-requires-clause-callable c =
    let u = c.args.u.now in
    let img = u.volume.img.now in
    serves_from_Range (λ x q k. search rules) (λ x lo hi. (
      (λ κs rp gn a r t. hi),
      (λ κs rp gn a r entry t. ap unused entry.ensures ∙ listed_used img _ u.volume.located _ u.listed x hi),
    ))

pub returns : goal.returns
unfolding sound3 used_entries
returns c =
    let u = c.args.u.now in
    let img = u.volume.img.now in
    let long = listed_length img u.slots.now u.listed in
    all_from_yields_List (λ (i : ℕ). placed img (get_or (used_entries img) i [])) _ _ c.all.result c.all.ensures.ran
    (YieldsList-from_range 0 (length u.slots.now) (length u.slots.now) refl (omega arith)) (λ x b q k. search (rules, tests))
    ∙ all_walked _ (placed img) (used_entries img) (λ i h. refl) _ 0 (omega (arith, long))
    ∙ sym (all_used (placed img) (entries img) (λ e z. placed-unused img e z))
