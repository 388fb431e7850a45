use Rattle.std.proofs.Common.{◌≡◌, refl, false, is_ok, rules}
use Rattle.lists.specs.Parts.{blanks}
use Rattle.moves.proofs.rerouting.NewBlock.{zeros_shaped, zeros_with, none_takes, joined_none}
use Rattle.moves.proofs.rerouting.reroute.Goals as goal

pub set_totals-requires : goal.set_totals-requires
unfolding blanks
set_totals-requires c = (zeros_shaped _ refl, c.total.ensures.1, c.stream_length.ensures.1)

pub push_all-requires : goal.push_all-requires
unfolding blanks
push_all-requires c =
    record {
      block_sound = c.requires.0;
      below = c.requires.1;
      takes = none_takes _ _ _ (zeros_with _ _ _ _ refl c.set_totals.ensures);
    }

pub returns-in_err-push_all-clause-answer : goal.returns-in_err-push_all-clause-answer
unfolding blanks
returns-in_err-push_all-clause-answer c =
    let none = zeros_with _ _ _ _ refl c.set_totals.ensures in
    let both = joined_none _ _ _ none _ _ _ c.push_all.ensures in
    let k : is_ok c.from_residual.result ≡ false = search rules in
    rw k (rw c.in_err-push_all.was at both.0)

pub returns : goal.returns
unfolding blanks
returns c =
    let total = c.total.ensures.0 in
    let long = c.stream_length.ensures.0 in
    let none = zeros_with _ _ _ _ refl (rw (total, long) at c.set_totals.ensures) in
    let both = joined_none _ _ _ none _ _ _ c.push_all.ensures in
    record { answer = rw c.in_ok-push_all.was at both.0; made = rw c.in_ok-push_all.was at both.1 }
