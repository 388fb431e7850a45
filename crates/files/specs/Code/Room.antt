-- What the writers of a new file ask: the layout, a slot, fields that fit an entry, and a run beside the table.
use Rattle.std.specs.Prelude.{◌≡◌, false, List, ℕ, ◌+◌, ◌*◌, ◌≤◌, ◌<◌, length}
use Rattle.lists.specs.Lists.{range, among}
use Rattle.volume.specs.Code.Located.{Located}
use Rattle.volume.specs.declared.locate.Layout.{Layout}
use Rattle.files.specs.Changes.{taken}

pub record Room (img : List ℕ) (p : Layout) (at : ℕ) (d : List ℕ) (k n l s : ℕ) : Type 0 where
  pub located : Located img p
  pub slot : at < 8 * p.dirs
  pub described : length d ≡ 20
  pub kind : k ≤ 1
  pub size : n < 65536
  pub long : l < 65536
  pub inside : s + taken k n ≤ p.t
  pub table_out : among p.sat (range s (taken k n)) ≡ false
