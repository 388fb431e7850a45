use Rattle.std.proofs.Common.{ℕ, [], get_or, length, arith, refl, ap, sym, ◌∙◌, rules, tests}
use Rattle.std.proofs.lemmas.Iterator.{YieldsList-from_range, serves_from_Range}
use Rattle.std.proofs.lemmas.Iterator.Search.{all_from_yields_List}
use Rattle.volume.specs.Directory.{entries, unused}
use Rattle.volume.specs.Code.Used.{used_entries}
use Rattle.volume.proofs.used.UsedSlots.{all_used, listed_below, listed_entry, listed_length, listed_used}
use Rattle.volume.proofs.used.Walked.{all_walked}
use Rattle.files.specs.Code.Verdict.{file_sound}
use Rattle.files.proofs.map.OpenBlock.{Opens-at}
use Rattle.files.proofs.check.FileVerdicts.{sound_none}
use Rattle.files.proofs.check.contents_sound.Goals as goal

pub all-requires-clause-callable : goal.all-requires-clause-callable
all-requires-clause-callable c =
    let u = c.args.used.now in
    let img = u.volume.img.now in
    serves_from_Range (λ x q k. search rules) (λ x lo hi. (
      (λ κs rp gn a r x1 x2 t. hi),
      (λ κs rp gn a r x1 x2 entry t.
          let e = entry.ensures ∙ sym (listed_entry img _ u.volume.located _ u.listed x hi) in
          let used = ap unused entry.ensures ∙ listed_used img _ u.volume.located _ u.listed x hi in
          let below = listed_below img _ u.volume.located _ u.listed x hi in
          (used, λ v. rw e (Opens-at img _ u.volume.located c.requires.0 c.requires.1 _ below (rw e at used) (rw e at v)))),
    ))

pub returns : goal.returns
unfolding used_entries
returns c =
    let u = c.args.used.now in
    let img = u.volume.img.now in
    let long = listed_length img u.slots.now u.listed in
    all_from_yields_List (λ (i : ℕ). file_sound img (get_or (used_entries img) i [])) _ _ c.all.result c.all.ensures.ran
    (YieldsList-from_range 0 (length u.slots.now) (length u.slots.now) refl (omega arith)) (λ x b q k. search (rules, tests))
    ∙ all_walked _ (file_sound img) (used_entries img) (λ i h. refl) _ 0 (omega (arith, long))
    ∙ sym (all_used (file_sound img) (entries img) (λ e z. sym (sound_none img e z)))
