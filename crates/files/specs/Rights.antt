-- Who may do what with a file. Defines RULES, Rights.
use Rattle.std.specs.Prelude.{Bool, List, ℕ, eqb}
use Rattle.lists.specs.Lists.{◌or◌}
use Rattle.volume.specs.Directory.{owner, read_code}

-- RULES, Rights: the owner of a file has the right to it, and so has user 0
unfoldable pub has_right : ℕ → ℕ → Bool
has_right caller user = eqb caller 0 or eqb caller user

-- RULES, Rights: the right to read the file of an entry, of a caller who offers a code: the file's code is 0, or it is the code offered,
-- or the caller has the right to the file
unfoldable pub may_read : ℕ → ℕ → List ℕ → Bool
may_read caller offered e = eqb (read_code e) 0 or eqb offered (read_code e) or has_right caller (owner e)

unfoldable pub rights_open : Unit {0}
unfolding has_right may_read
rights_open = tt
