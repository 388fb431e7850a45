use mathlib.Core.Path.{sym, ◌∙◌}
use Rattle.files.proofs.check.SoundVerdict.{no_layout, checked_no, sound-Layout, checked_yes}
use Rattle.files.proofs.check.check.Goals as goal

pub returns-in_default : goal.returns-in_default
returns-in_default c = checked_no _ (no_layout _ (sym c.locate_sound.ensures ∙ c.in_default.is))

pub invariant_of-free_sectors : goal.invariant_of-free_sectors
invariant_of-free_sectors c = record { located = (sound-Layout _ _ (sym c.locate_sound.ensures ∙ c.in-Some.is)).1 }

pub returns : goal.returns
returns c =
    checked_yes _ _ c.free_sectors-free.ensures (sound-Layout _ _ (sym c.locate_sound.ensures ∙ c.in-Some.is)).0
