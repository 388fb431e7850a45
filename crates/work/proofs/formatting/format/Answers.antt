use mathlib.Core.Path.{sym, ◌∙◌, ◌≡◌}
use mathlib.Core.Bool.{true}
use mathlib.Core.List.{List}
use Prim.Native.Nat.{ℕ, ◌*◌, ◌≤◌}
use lib.ListN.{length}
use lib.Dec.{eqb}
use borrow.Author.Tests.{eqb-true, leb-true}
use Rattle.numbers.specs.Numbers.{fewest_sectors, most_sectors, most_dirs}
use Rattle.lists.specs.Lists.{◌and◌}
use Rattle.lists.specs.Parts.{sectors}
use Rattle.lists.proofs.Tests.{and_left, and_right}
use Rattle.volume.specs.Names.{volume_id}
use Rattle.volume.specs.Volume.{in_range}
use Rattle.work.specs.Refusals.{ruled}
use Rattle.work.specs.Volumes.{format_rules}
use Rattle.work.specs.Code.Deeds.{done_by, format_deed, quiet}
use Rattle.work.proofs.Quiet.{none_moved}
use Rattle.work.proofs.formatting.format.Goals as goal

pub returns-then-not-formattable : goal.returns-then-not-formattable
unfolding format_deed format_rules done_by ruled
returns-then-not-formattable c = rw (sym c.formattable.ensures ∙ c.if-not-formattable.true)

-- what the test says of image, ID and number of directory sectors
asks : (img id : List ℕ) (n : ℕ) → (eqb (length img) (256 * sectors img) and in_range (sectors img) n and volume_id id) ≡ true
    → (length img ≡ 256 * sectors img) × (fewest_sectors ≤ sectors img) × (sectors img ≤ most_sectors) × (1 ≤ n) × (n ≤ most_dirs) × (length id ≡ 4)
unfolding in_range volume_id
asks img id n h =
    let l = and_left _ _ h in
    let r = and_right _ _ l in
    let r3 = and_left _ _ r in
    let r2 = and_left _ _ r3 in (
      eqb-true _ _ (and_left _ _ l),
      leb-true _ _ (and_left _ _ r2),
      leb-true _ _ (and_right _ _ r2),
      leb-true _ _ (and_right _ _ r3),
      leb-true _ _ (and_right _ _ r),
      eqb-true _ _ (and_left _ _ (and_right _ _ h)),
    )

pub format-requires : goal.format-requires
format-requires c = asks _ _ _ (sym c.formattable.ensures ∙ c.if-not-formattable.false)

pub returns : goal.returns
unfolding format_deed format_rules quiet done_by ruled
returns c = rw (none_moved c.default.result c.default.ensures, c.format.ensures, sym c.formattable.ensures ∙ c.if-not-formattable.false)
