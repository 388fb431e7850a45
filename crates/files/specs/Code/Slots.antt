-- A directory slot of a sound volume, as the code is handed it.
use Rattle.std.specs.Prelude.{◌≡◌, true, false, List, ℕ, ◌*◌, ◌<◌}
use Rattle.volume.specs.Directory.{entry_at, unused}
use Rattle.volume.specs.Code.Located.{Located}
use Rattle.volume.specs.declared.locate.Layout.{Layout}
use Rattle.files.specs.Files.{sound}

-- p is the layout of the sound volume img, and its slot k is in use
pub record InUse (img : List ℕ) (p : Layout) (k : ℕ) : Type 0 where
  pub located : Located img p
  pub is_sound : sound img ≡ true
  pub slot : k < 8 * p.dirs
  pub used : unused (entry_at img k) ≡ false
