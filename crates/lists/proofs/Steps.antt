-- What the check rewrites by: tests joined, once the first is known.
use mathlib.Core.Path.{◌≡◌}
use mathlib.Core.Bool.{Bool, true, false}
use Rattle.lists.specs.Lists.{◌and◌, ◌or◌}

pub and_passed : (a b : Bool) → a ≡ true → a and b ≡ b
unfolding ◌and◌
and_passed a b e = rw e

pub and_failed : (a b : Bool) → a ≡ false → a and b ≡ false
unfolding ◌and◌
and_failed a b e = rw e

pub or_passed : (a b : Bool) → a ≡ true → a or b ≡ true
unfolding ◌or◌
or_passed a b e = rw e

pub or_failed : (a b : Bool) → a ≡ false → a or b ≡ b
unfolding ◌or◌
or_failed a b e = rw e

pub ruleset bool_steps = (and_passed, and_failed, or_passed, or_failed)
