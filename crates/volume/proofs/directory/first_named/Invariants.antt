-- The loops' invariants: the search from slot 8 j + k on finds what the whole search finds.
use Rattle.std.proofs.Common.{◌≡◌, ◌+◌, ◌*◌, position, None}
use Rattle.volume.specs.Directory.{named}
use Rattle.volume.proofs.NamesSought.{left}
use Rattle.volume.proofs.directory.first_named.Given as goal

abbrev pub invariant-loop-k : goal.invariant-loop-k
invariant-loop-k l = (l.found ≡ None) × (left (named l.desc) (8 * l.j + l.k) l.entries ≡ position (named l.desc) l.entries)

abbrev pub invariant-sectors : goal.invariant-sectors
invariant-sectors l = (l.found ≡ None) × (left (named l.desc) (8 * l.j) l.entries ≡ position (named l.desc) l.entries)
