-- Point 1 in another order: the length first, since the trailer can be read only then.
use mathlib.Core.Path.{sym, ◌∙◌, ◌≡◌}
use native.Mathlib.Omega.{arith}
use mathlib.Core.Bool.{Bool, true, false}
use Rattle.lists.specs.Lists.{◌and◌}
use Rattle.lists.specs.Parts.{sectors}
use Rattle.volume.specs.Volume.{trailer}
use Rattle.volume.specs.Code.Located.{dirs_test}
use Rattle.volume.proofs.Located.{not_sized, sized_facts, not_trailer, to_dir_in, sound1_rest}
use Rattle.volume.proofs.locate.sound_1.Goals as goal

true_first : (a b : Bool) → a ≡ true → a and b ≡ b
unfolding ◌and◌
true_first a b h = rw h

false_first : (a b : Bool) → a ≡ false → a and b ≡ false
unfolding ◌and◌
false_first a b h = rw h

pub returns-then-not-sized : goal.returns-then-not-sized
returns-then-not-sized c = sym (not_sized _ (sym c.sized.ensures ∙ c.if-not-sized.true))

pub overflow_sub-t : goal.overflow_sub-t
unfolding sectors
overflow_sub-t c =
    let img = c.args.img.now in
    let hs = sym c.sized.ensures ∙ c.if-not-sized.false in
    let f = sized_facts img hs in
    omega arith

pub sector_of-tr-requires : goal.sector_of-tr-requires
unfolding sectors
sector_of-tr-requires c =
    let img = c.args.img.now in
    let hs = sym c.sized.ensures ∙ c.if-not-sized.false in
    let f = sized_facts img hs in
    omega arith

pub returns-then-not-trailer_good : goal.returns-then-not-trailer_good
unfolding sectors trailer
returns-then-not-trailer_good c =
    let args = c.args in
    let img = args.img.now in
    let hs = sym c.sized.ensures ∙ c.if-not-sized.false in
    let f = sized_facts img hs in
    let te : c.sector_of-tr.result.now ≡ trailer img = c.sector_of-tr.ensures in
    sym (not_trailer img (rw te at (sym c.trailer_good.ensures ∙ c.if-not-trailer_good.true)))

pub dirs_good-requires : goal.dirs_good-requires
unfolding sectors
dirs_good-requires c =
    let args = c.args in
    let img = args.img.now in
    let hs = sym c.sized.ensures ∙ c.if-not-sized.false in
    let f = sized_facts img hs in (
      omega arith,
      to_dir_in (sectors img) c.sector_of-tr.result.now (sym c.trailer_good.ensures ∙ c.if-not-trailer_good.false),
    )

pub slice_bounds-volume_id-end : goal.slice_bounds-volume_id-end
unfolding sectors
slice_bounds-volume_id-end c =
    let args = c.args in
    let img = args.img.now in
    let hs = sym c.sized.ensures ∙ c.if-not-sized.false in
    let f = sized_facts img hs in
    omega arith

pub returns-then-dirs_good : goal.returns-then-dirs_good
unfolding sectors trailer ◌and◌
returns-then-dirs_good c =
    let img = c.args.img.now in
    let hs = sym c.sized.ensures ∙ c.if-not-sized.false in
    let te : c.sector_of-tr.result.now ≡ trailer img = c.sector_of-tr.ensures in
    let d : dirs_test (sectors img) (trailer img) ≡ true = rw te at (sym c.dirs_good.ensures ∙ c.if-dirs_good.true) in
    c.volume_id.ensures ∙ sym (true_first _ _ d) ∙ sound1_rest img hs (rw te at (sym c.trailer_good.ensures ∙ c.if-not-trailer_good.false))

pub returns-else-dirs_good : goal.returns-else-dirs_good
unfolding sectors trailer ◌and◌
returns-else-dirs_good c =
    let img = c.args.img.now in
    let hs = sym c.sized.ensures ∙ c.if-not-sized.false in
    let te : c.sector_of-tr.result.now ≡ trailer img = c.sector_of-tr.ensures in
    let d : dirs_test (sectors img) (trailer img) ≡ false = rw te at (sym c.dirs_good.ensures ∙ c.if-dirs_good.false) in
    c.if-dirs_good.false ∙ sym (false_first _ _ d) ∙ sound1_rest img hs (rw te at (sym c.trailer_good.ensures ∙ c.if-not-trailer_good.false))
