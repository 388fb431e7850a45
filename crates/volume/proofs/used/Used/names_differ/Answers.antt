use Rattle.std.proofs.Common.{◌≡◌, ◌+◌, ℕ, take, length, get_or, drop, [], arith, refl, sym, ◌∙◌, rules, tests}
use lib.Seq.{length-take-le}
use Rattle.std.proofs.lemmas.Iterator.{YieldsList-from_range, serves_from_Range}
use Rattle.std.proofs.lemmas.Iterator.Search.{all_from_yields_List}
use Rattle.lists.proofs.Fronts.{over_front}
use Rattle.volume.specs.Code.Used.{file_numbers, used_entries}
use Rattle.volume.proofs.clashes.NamesDiffer.{alone}
use Rattle.volume.proofs.used.UsedSlots.{listed_length, listed_most, names_used}
use Rattle.volume.proofs.clashes.FileNumbers.{length_numbers}
use Rattle.volume.proofs.used.Walked.{differ_walked}
use Rattle.volume.proofs.used.Used.names_differ.Goals as goal

pub number_all-requires : goal.number_all-requires
number_all-requires c = let u = c.args.self.now in listed_most _ _ u.volume.located _ u.listed

pub slice_bounds-room-end : goal.slice_bounds-room-end
slice_bounds-room-end c = let u = c.args.self.now in omega (arith, listed_most _ _ u.volume.located _ u.listed, c.number_all.auto.numbers)

pub slice_bounds-numbers-end : goal.slice_bounds-numbers-end
slice_bounds-numbers-end c =
    let u = c.args.self.now in
    sym (length-take-le _ _ (omega (arith, listed_most _ _ u.volume.located _ u.listed, c.number_all.auto.numbers)))

pub all-requires-clause-callable : goal.all-requires-clause-callable
all-requires-clause-callable c =
    let u = c.args.self.now in
    let img = u.volume.img.now in
    let n = listed_length img _ u.listed ∙ sym (length_numbers img) in
    let numbers : take (length u.slots.now) c.number_all.new.numbers ≡ file_numbers img = rw (n, c.number_all.ensures) (over_front (file_numbers img) _) in
    let few = listed_most _ _ u.volume.located _ u.listed in
    let room = length-take-le _ _ (omega (arith, few, c.number_all.auto.numbers)) in
    serves_from_Range (λ x q k. search rules) (λ x lo hi. λ κs rp gn a r b t z. (numbers, (room, (few, hi))))

pub returns : goal.returns
unfolding used_entries
returns c =
    let u = c.args.self.now in
    let img = u.volume.img.now in
    let long = listed_length img u.slots.now u.listed in
    all_from_yields_List (λ (i : ℕ). alone (get_or (used_entries img) i []) (drop (i + 1) (used_entries img))) _ _ c.all.result c.all.ensures.ran
    (YieldsList-from_range 0 (length u.slots.now) (length u.slots.now) refl (omega arith)) (λ x b q k. search (rules, tests))
    ∙ differ_walked _ (used_entries img) (λ i h. refl) _ 0 (omega (arith, long)) ∙ sym (names_used _)
