-- Demand 1, and the refusals of demand 2.
use Rattle.std.specs.Prelude.{List, [], ◌∷◌, ◌≡◌, true, false, ◌↔◌, ◌≢◌, ℕ, ◌<◌, length, get_or}
use Rattle.lists.specs.Lists.{among}
use Rattle.work.specs.declared.Refusal.{Refusal}
use Rattle.work.specs.declared.Refusal.TheVariants.{NotSound}
use Rattle.work.specs.Refusals.{code, Rule, ◌if◌}
use Rattle.desk.specs.Desk.{State, ready}
use Rattle.desk.specs.Answers.{status, moved, Outcome}
use Rattle.desk.specs.Calls.{Call, format, check, bring_up, step, given, rules, Ensured}
use Rattle.desk.specs.Answers.{Answer}
use Rattle.std.specs.Prelude.{Err}
use Rattle.desk.specs.declared.Desk.{Desk}

-- RULES, Status numbers
unfoldable pub status_table : List ℕ
status_table =
    0x00 ∷ 0x02 ∷ 0x03 ∷ 0x07 ∷ 0x0B ∷ 0x0D ∷ 0x17 ∷ 0x82 ∷ 0x84 ∷ 0xC2 ∷ 0x60 ∷ 0x61 ∷ 0x62 ∷ 0x63 ∷ 0x64 ∷ 0x65 ∷ 0x66 ∷ 0x67 ∷ 0x6F ∷ []

-- Demand 1: "Any image, any request, any length: every call ends with an answer from the status table."
abbrev pub InTable : Type 0
InTable = (c : Call) (s : State) → among (status (step c s).answer) status_table ≡ true

-- "A refusal hands back its number and length 0, and image, desk and buffer keep every byte."
pub record Kept (c : Call) (s : State) (r : Refusal) : Type 0 where
  pub its_number : status (step c s).answer ≡ code r
  pub length_0 : moved (step c s).answer ≡ 0
  pub image_kept : (step c s).image ≡ s.image
  pub desk_kept : (step c s).desk ≡ s.desk
  pub buffer_kept : (step c s).buffer ≡ given c

abbrev pub RefusalKeeps : Type 0
RefusalKeeps = (c : Call) (s : State) (r : Refusal) → (step c s).answer ≡ Err r → Kept c s r

-- Demand 2: "each refusal comes exactly when its condition holds and no earlier one in its call's order does."
-- The rule at place k of the call's order is the first that applies
pub record First (rs : List Rule) (k : ℕ) (r : Refusal) : Type 0 where
  pub inside : k < length rs
  pub is_rule : (get_or rs k (NotSound if false)).refusal ≡ r
  pub applies : (get_or rs k (NotSound if false)).holds ≡ true
  pub none_earlier : (j : ℕ) → j < k → (get_or rs j (NotSound if false)).holds ≡ false

-- a program as a reader sees it, what it makes of each call in each state; one whose refusals are those; and so are the service's
abbrev pub Program : Type 0
Program = Call → State → Outcome

abbrev pub RefusesExactly : Program → Type 0
RefusesExactly p = (c : Call) (s : State) (r : Refusal) → ((p c s).answer ≡ Err r) ↔ ((k : ℕ) × First (rules c s) k r)

abbrev pub RefusedExactly : Type 0
RefusedExactly = RefusesExactly (λ c s. step c s)

-- RULES, Status numbers: $6F: a volume that is not sound, or a desk that does not fit it, is refused by every call but format, check and
-- bring-up (`BringUpExactly`)
abbrev pub NoFormat : Call → Type 0
NoFormat c = (id : List ℕ) (n : ℕ) → c ≢ format id n

abbrev pub UnreadyRefused : Type 0
UnreadyRefused =
    (c : Call) (s : State) → NoFormat c → c ≢ check → c ≢ bring_up → ready s ≡ false → (step c s).answer ≡ Err NotSound

-- At most one outcome satisfies each call's statement: `Ensured` is what the twelve public functions ensure
pub record SameOutcome (a a' : Answer) (img img' : List ℕ) (d d' : Desk) (buf buf' : List ℕ) : Type 0 where
  pub answers : a ≡ a'
  pub images : img ≡ img'
  pub desks : d ≡ d'
  pub buffers : buf ≡ buf'

abbrev pub OneOutcome : Type 0
OneOutcome =
    (c : Call) (s : State) (a a' : Answer) (img img' : List ℕ) (d d' : Desk) (buf buf' : List ℕ)
    → Ensured c s a img d buf → Ensured c s a' img' d' buf' → SameOutcome a a' img img' d d' buf buf'
