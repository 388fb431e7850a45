use mathlib.Core.Path.{sym, ◌∙◌}
use Rattle.files.proofs.SoundFacts.{facts}
use Rattle.files.proofs.check.SoundVerdict.{sound-Layout, no_layout}
use Rattle.picture.proofs.SectorsDrawn.{answer_no, answer_yes}
use Rattle.picture.proofs.draw.Goals as goal

pub returns-in_default : goal.returns-in_default
returns-in_default c =
    answer_no c.args.img.now _ (no_layout _ (sym c.locate_sound.ensures ∙ c.in_default.is))

pub invariant_of-v : goal.invariant_of-v
invariant_of-v c = record { located = (sound-Layout _ _ (sym c.locate_sound.ensures ∙ c.in-Some.is)).1 }

pub fill_holders-requires : goal.fill_holders-requires
fill_holders-requires c =
    let s = sound-Layout _ _ (sym c.locate_sound.ensures ∙ c.in-Some.is) in
    (facts _ s.0).three

pub draw_all-requires : goal.draw_all-requires
draw_all-requires c = (c.fill_holders.ensures, c.requires)

pub returns : goal.returns
returns c =
    let s = sound-Layout _ _ (sym c.locate_sound.ensures ∙ c.in-Some.is) in
    answer_yes _ _ _ _ s.0 s.1 c.draw_all.ensures
