-- Calls one after the other, in two ways: image and desk both handed on, or the image alone.
use Rattle.std.specs.Prelude.{List, [], ◌∷◌, ◌≡◌, ℕ}
use Rattle.desk.specs.declared.Desk.{Desk}
use Rattle.desk.specs.Desk.{State, state}
use Rattle.desk.specs.Answers.{Outcome}
use Rattle.desk.specs.Calls.{Call, step}

-- A run: each call is given the image and the desk that the last one left. The state after it, and the outcome of each of its calls
unfoldable pub next : Call → State → State
next c s = state (step c s).image (step c s).desk

unfoldable pub run : List Call → State → State
run [] s = s
run (c ∷ cs) s = run cs (next c s)

unfoldable pub trace : List Call → State → List Outcome
trace [] s = []
trace (c ∷ cs) s = step c s ∷ trace cs (next c s)

-- A visit: a call with whatever desk comes with it, one that does not fit the volume among them. The image alone is handed on
pub record Visit : Type 0 where
  pub desk : Desk
  pub call : Call

abbrev pub visit : Desk → Call → Visit
visit d c = record { desk = d; call = c }

abbrev pub found : Visit → List ℕ → State
found v img = state img v.desk

unfoldable pub through : List Visit → List ℕ → List ℕ
through [] img = img
through (v ∷ vs) img = through vs (step v.call (found v img)).image

-- A run is such visits, with the desks that its calls left: what is said of any visits is said of any run
unfoldable pub visits : List Call → State → List Visit
visits [] s = []
visits (c ∷ cs) s = visit s.desk c ∷ visits cs (next c s)

abbrev pub RunsAreVisits : Type 0
RunsAreVisits = (cs : List Call) (s : State) → (run cs s).image ≡ through (visits cs s) s.image
