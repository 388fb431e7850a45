use mathlib.Core.Path.{sym, ◌∙◌}
use native.Mathlib.Omega.{arith}
use Rattle.luns.proofs.FitLaws.{place_exists_lem, seated_used, seated_low}
use Rattle.luns.proofs.fits.stands.Goals as goal

pub entry-requires : goal.entry-requires
entry-requires c = omega (arith, c.args.v.now.located.is_dirs, seated_low _ _ c.requires.1)

pub extent_of-requires : goal.extent_of-requires
extent_of-requires c =
    record { located = c.args.v.now.located; is_sound = c.requires.0; slot = omega (arith, c.args.v.now.located.is_dirs, seated_low _ _ c.requires.1); used = seated_used _ _ c.requires.1 }

pub returns : goal.returns
returns c =
    c.place_within.ensures
    ∙ rw (c.contiguous.ensures, c.entry.ensures, c.extent_of.ensures) (sym (place_exists_lem _ _ _))
