use Rattle.std.proofs.Common.{[], ◌∷◌, refl, ap, ◌∙◌, ◌≤◌, arith, length, length-set}
use lib.ListN.{drop_of_length-le}
use Rattle.lists.proofs.Fronts.{Front-start, Front-more, front_end, Placed-one}
use Rattle.volume.specs.Directory.{described}
use Rattle.volume.specs.Code.Used.{file_number, file_numbers}
use Rattle.volume.proofs.used.UsedSlots.{listed_few, listed_length}
use Rattle.volume.proofs.clashes.FileNumbers.{numbers_one, length_numbers}
use Rattle.volume.proofs.used.Used.number_all.Goals as goal

pub loop-i-init : goal.loop-i-init
loop-i-init c = (refl, Front-start _ _)

pub loop-i-preserved : goal.loop-i-preserved
loop-i-preserved c =
    let l = c.loop-i in
    let u = c.args.self.now in
    let img = u.volume.img.now in
    let v = c.file_number.ensures ∙ ap file_number (c.described.ensures.0 ∙ ap described c.entry.ensures) in
    let h = listed_few img _ u.volume.located _ u.listed l.i (omega arith) in (
      length-set l.numbers l.i c.file_number.result ∙ l.invariant.0,
      Front-more _ _ _ _ _ l.invariant.1 (c.file_number.result ∷ []) _ _ _ (numbers_one img l.i h _ v)
          (Placed-one l.i c.file_number.result (c.file_number.result ∷ []) _ refl (omega arith)),
    )

pub returns : goal.returns
returns c =
    let l = c.loop-i in
    let u = c.args.self.now in
    let img = u.volume.img.now in
    let n : length (file_numbers img) ≤ l.i = omega (arith, length_numbers img, listed_length img _ u.listed) in
    (front_end _ _ _ _ _ l.invariant.1 (drop_of_length-le (file_numbers img) n)).1
