use mathlib.Core.Path.{sym, ◌∙◌}
use Rattle.files.proofs.check.SoundVerdict.{sound-Layout}
use Rattle.desk.proofs.Openings.{begun_nowhere, begun_misfit, begun_bad, begun_at}
use Rattle.desk.proofs.Desk.begin.Goals as goal

pub returns-in_default : goal.returns-in_default
returns-in_default c = begun_nowhere _ _ _ (sym c.locate_sound.ensures ∙ c.in_default.is)

pub invariant_of-fits : goal.invariant_of-fits
invariant_of-fits c = record { located = (sound-Layout _ _ (sym c.locate_sound.ensures ∙ c.in-Some.is)).1 }

pub fits-requires : goal.fits-requires
fits-requires c = (sound-Layout _ _ (sym c.locate_sound.ensures ∙ c.in-Some.is)).0

pub returns-then-not-fits : goal.returns-then-not-fits
returns-then-not-fits c = begun_misfit _ _ _ (sym c.fits.ensures ∙ c.if-not-fits.true)

pub returns-then-not-fine : goal.returns-then-not-fine
returns-then-not-fine c =
    begun_bad _ _ _ _ (sym c.locate_sound.ensures ∙ c.in-Some.is) (sym c.fits.ensures ∙ c.if-not-fits.false) c.if-not-fine.true

pub returns : goal.returns
returns c =
    begun_at _ _ _ _ (sym c.locate_sound.ensures ∙ c.in-Some.is) (sym c.fits.ensures ∙ c.if-not-fits.false) c.if-not-fine.false
