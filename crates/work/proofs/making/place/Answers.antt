use mathlib.Core.Path.{sym, ◌∙◌, ◌≡◌}
use Prim.Native.Nat.{◌*◌}
use Rattle.lists.specs.Lists.{index}
use Rattle.volume.specs.Directory.{entries, unused}
use Rattle.volume.specs.Code.Found.{found_of}
use Rattle.std.specs.Prelude.{Some}
use Rattle.work.specs.Refusals.{ruled}
use Rattle.work.specs.Volumes.{place_rules, new_file}
use Rattle.work.specs.Code.Deeds.{done_by, place_deed, quiet}
use Rattle.work.proofs.Quiet.{none_moved}
use Rattle.work.proofs.Searches.{none_found, some_found, found_slot}
use Rattle.work.proofs.Handing.{refused_as}
use Rattle.work.proofs.NewFiles.{sized-taken, no_run, Room-found, some_run}
use Rattle.work.proofs.making.place.Goals as goal

pub returns-in_err-slot : goal.returns-in_err-slot
unfolding place_deed place_rules done_by ruled
returns-in_err-slot c =
    let pre = c.requires in
    rw (
      refused_as _ _ _ c.from_residual.ensures.1 (rw c.in_err-slot.ensures.ok_part at c.in_err-slot.ensures.value),
      none_found _ _ pre.0 _ (sym c.lowest_unused.ensures ∙ c.in_err-slot.ensures.ok_part),
    )

pub lowest_start-s-requires : goal.lowest_start-s-requires
lowest_start-s-requires c =
    let few = sized-taken _ _ _ c.requires.5 in
    (c.requires.0, few.0, few.1)

pub returns-then-p-s : goal.returns-then-p-s
unfolding place_deed place_rules done_by ruled
returns-then-p-s c =
    let found : found_of (8 * c.args.p.dirs) (index unused (entries c.args.image.now)) ≡ Some c.in_ok-slot.slot =
    sym c.lowest_unused.ensures ∙ c.in_ok-slot.ensures.ok_part in
    let l = c.requires.0 in
    rw (
      some_found _ _ l _ _ found,
      no_run _ _ _ _ _ l c.lowest_start-s.ensures c.if-p-s.true,
    )

pub allocate-requires : goal.allocate-requires
allocate-requires c =
    let found : found_of (8 * c.args.p.dirs) (index unused (entries c.args.image.now)) ≡ Some c.in_ok-slot.slot =
    sym c.lowest_unused.ensures ∙ c.in_ok-slot.ensures.ok_part in
    Room-found _ _ _ _ _ _ c.args.read_code _ _ c.requires.0 c.requires.1 c.requires.2 c.requires.3 c.requires.4 c.requires.5 c.requires.6 (some_found _ _ c.requires.0 _ _ found)
    (found_slot _ _ c.requires.0 _ _ found) c.lowest_start-s.ensures c.if-p-s.false

pub returns : goal.returns
unfolding place_deed place_rules new_file quiet done_by ruled
returns c =
    let found : found_of (8 * c.args.p.dirs) (index unused (entries c.args.image.now)) ≡ Some c.in_ok-slot.slot =
    sym c.lowest_unused.ensures ∙ c.in_ok-slot.ensures.ok_part in
    let l = c.requires.0 in
    let s = c.lowest_start-s.ensures in
    rw (
      none_moved c.default.result c.default.ensures,
      c.allocate.ensures,
      some_found _ _ l _ _ found,
      found_slot _ _ l _ _ found,
      some_run _ _ _ _ _ l s c.if-p-s.false,
      s,
    )
