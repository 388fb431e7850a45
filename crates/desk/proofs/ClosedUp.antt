-- Compact, case by case: its first rules, a quota out of range, and what its work came to.
use mathlib.Core.Path.{◌≡◌, refl, ap}
use mathlib.Core.Bool.{true}
use mathlib.Core.List.{List, [], ◌∷◌, ◌++◌}
use Prim.Native.Nat.{ℕ, ◌<◌, ◌≤◌}
use native.Mathlib.Omega.{arith}
use lib.Dec.{ltb}
use borrow.Author.Tests.{lt-ltb, le-ltb}
use Rattle.numbers.specs.Numbers.{most_quota}
use Rattle.compaction.specs.Compaction.{Closing, closing, compacted}
use Rattle.compaction.specs.declared.Ending.{Ending}
use Rattle.compaction.proofs.Quota.{compacted_most}
use Rattle.work.specs.declared.Refusal.TheVariants.{OutOfRange}
use Rattle.work.specs.Refusals.{◌if◌, ruled}
use Rattle.std.specs.Prelude.{Ok, Err}
use Rattle.desk.specs.declared.Desk.{Desk}
use Rattle.desk.specs.declared.Report.TheVariants.{Compacted}
use Rattle.desk.specs.Desk.{State, state}
use Rattle.desk.specs.Answers.{outcome, judged}
use Rattle.desk.specs.Calls.{compact, begin_rules, compact_rules, rules, done, given, closed_up_to, step}
use Rattle.desk.specs.Code.Left.{close_left}

-- no caller is asked for: its rules are those of a call whose caller is fine
pub compact-step : (s : State) (n : ℕ)
    → step (compact n) s ≡ judged (begin_rules s true ++ (OutOfRange if ltb most_quota n ∷ [])) s [] (closed_up_to s (compacted n s.image))
unfolding step rules done given compact_rules begin_rules judged ruled
compact-step s n = refl

-- a quota above 2,048
pub close_refused : (img : List ℕ) (d : Desk) (n : ℕ) → most_quota < n → outcome (Err OutOfRange) img d [] ≡ close_left (state img d) n
unfolding close_left judged ruled
close_refused img d n h = rw (lt-ltb most_quota n h)

-- any other: the sectors moved are few, and the outcome is the definition's
module _ (img : List ℕ) (n m : ℕ) (why : Ending) (img' : List ℕ) (h : n ≤ most_quota) (e : closing m why img' ≡ compacted n img) where
  pub moved_few : m < 4294967296
  moved_few = omega (arith, h, ap (λ (c : Closing). c.moved) e, compacted_most n img)

  pub close_done : (d : Desk) → outcome (Ok (Compacted m why)) img' d [] ≡ close_left (state img d) n
  unfolding close_left judged ruled closed_up_to
  close_done d = rw (le-ltb most_quota n h, ← e)
