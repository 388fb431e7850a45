-- What the code that closes a volume up keeps true between its steps.
use Rattle.std.specs.Prelude.{if◌then◌else◌, ◌≡◌, Bool, true, false, not, List, ℕ, ◌+◌, ◌-◌, ◌≤◌}
use Rattle.lists.specs.Lists.{first, topmost}
use Rattle.volume.specs.Volume.{sat}
use Rattle.volume.specs.Sat.{is_free}
use Rattle.volume.specs.Code.Located.{Located}
use Rattle.volume.specs.declared.locate.Layout.{Layout}
use Rattle.files.specs.Files.{sound}
use Rattle.compaction.specs.Compaction.{Closing, closing, holds_data, highest_data, lowest_free, closed_up, stepped, overfull, compacted}
use Rattle.compaction.specs.Code.Holders.{Holders}

-- a sound volume, its layout, and the table of its data sectors
pub record Tabled (img : List ℕ) (p : Layout) (who : List ℕ) : Type 0 where
  pub located : Located img p
  pub is_sound : sound img ≡ true
  pub table : Holders img who

-- it is not closed up, and these are the sectors of its next step
pub record NextStep (img : List ℕ) (p : Layout) (who : List ℕ) (hi lo : ℕ) : Type 0 where
  pub tabled : Tabled img p who
  pub not_closed : closed_up img ≡ false
  pub is_highest : hi ≡ highest_data img
  pub is_lowest : lo ≡ lowest_free img

-- an answer, an image and a table after that step was to be made
pub record Advanced (img : List ℕ) (p : Layout) (r : Bool) (img' who' : List ℕ) : Type 0 where
  pub answer : r ≡ not (overfull img)
  pub image : img' ≡ (if r then stepped img else img)
  pub tabled : r ≡ true → Tabled (stepped img) p who'

-- what a compaction comes to, with m sectors more moved
unfoldable pub after_many : ℕ → Closing → Closing
after_many m c = closing (c.moved + m) c.ending c.image

-- after n steps from the volume v: searches below hi and from lo on find what searches of the whole volume find, and what is left of the
-- quota makes of it what the whole quota makes of v
pub record Going (v : List ℕ) (quota : ℕ) (p : Layout) (img who : List ℕ) (hi lo n : ℕ) : Type 0 where
  pub tabled : Tabled img p who
  pub below : hi ≤ p.t
  pub highest : topmost (holds_data img) hi ≡ highest_data img
  pub lowest : first (is_free (sat img)) lo (p.t - lo) ≡ lowest_free img
  pub few : n ≤ quota
  pub left : after_many n (compacted (quota - n) img) ≡ compacted quota v
