-- What is left of assign, delete and compact once their first rules have passed, for the functions that carry them on: the parts of their
-- rules that are left, and their change.
use Rattle.std.specs.Prelude.{◌≡◌, true, Bool, [], List, ◌++◌, ◌∷◌, ℕ, ltb}
use Rattle.numbers.specs.Numbers.{most_quota}
use Rattle.volume.specs.Names.{user_of}
use Rattle.volume.specs.Code.Located.{Located}
use Rattle.volume.specs.declared.locate.Layout.{Layout}
use Rattle.files.specs.Changes.{deleted}
use Rattle.compaction.specs.Compaction.{compacted}
use Rattle.luns.specs.declared.Lun.{Lun}
use Rattle.luns.specs.declared.Mode.{Mode}
use Rattle.luns.specs.Modes.{mode_of}
use Rattle.work.specs.Volumes.{named_rules, slot_of}
use Rattle.work.specs.declared.Refusal.TheVariants.{UnknownType, OutOfRange}
use Rattle.work.specs.Refusals.{◌if◌}
use Rattle.desk.specs.Desk.{State, ready, put_lun}
use Rattle.desk.specs.Answers.{Outcome, judged}
use Rattle.desk.specs.Calls.{seat_rules, quietly, seat_of, remove_rules, closed_up_to}

-- a sound volume that the desk fits, and its layout
pub record Begins (s : State) (p : Layout) : Type 0 where
  pub located : Located s.image p
  pub is_ready : ready s ≡ true

-- Assign: of the LUN u; by the file's name; by the mode's number
unfoldable pub seat_left : State → ℕ → ℕ → ℕ → Lun → Outcome
seat_left s caller owner lun u = judged (seat_rules s caller owner u) s [] (quietly s.image (put_lun s.desk lun u))

unfoldable pub assign_left : State → ℕ → ℕ → List ℕ → Mode → Bool → ℕ → Outcome
assign_left s caller lun desc m end offered =
    let u = seat_of s.image caller (slot_of s.image desc) m end offered in
    judged (named_rules s.image desc ++ seat_rules s caller (user_of desc) u) s [] (quietly s.image (put_lun s.desk lun u))

unfoldable pub mode_left : State → ℕ → ℕ → List ℕ → ℕ → Bool → ℕ → Outcome
mode_left s caller lun desc mode end offered =
    let u = seat_of s.image caller (slot_of s.image desc) (mode_of mode) end offered in
    judged
    (UnknownType if ltb 7 mode ∷ (named_rules s.image desc ++ seat_rules s caller (user_of desc) u))
    s [] (quietly s.image (put_lun s.desk lun u))

-- Delete: of the file in a slot; by the file's name
unfoldable pub remove_left : State → ℕ → ℕ → ℕ → Outcome
remove_left s caller user slot = judged (remove_rules s.desk caller user slot) s [] (quietly (deleted slot s.image) s.desk)

unfoldable pub delete_left : State → ℕ → List ℕ → Outcome
delete_left s caller desc =
    let k = slot_of s.image desc in
    judged
    (named_rules s.image desc ++ remove_rules s.desk caller (user_of desc) k)
    s [] (quietly (deleted k s.image) s.desk)

-- Compact
unfoldable pub close_left : State → ℕ → Outcome
close_left s n = judged (OutOfRange if ltb most_quota n ∷ []) s [] (closed_up_to s (compacted n s.image))
