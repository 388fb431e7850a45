-- Hollow programs that the statements shut out, and check's count. The steps are those of RULES, Worked example.
use Rattle.std.specs.Prelude.{if◌then◌else◌, ◌≡◌, Bool, false, true, List, [], ℕ, ◌+◌, ◌*◌, ◌≤◌, length}
use Rattle.lists.specs.Parts.{put}
use Rattle.volume.specs.Directory.{start, contiguous}
use Rattle.volume.specs.Sat.{free}
use Rattle.files.specs.Files.{extent, sound}
use Rattle.desk.specs.Desk.{State, file_of}
use Rattle.desk.specs.Answers.{accepts, status, outcome}
use Rattle.desk.specs.Calls.{Call, Ensured, step, write, check}
use Rattle.std.specs.Prelude.{Ok}
use Rattle.desk.specs.declared.Report.TheVariants.{Checked}
use Rattle.promises.specs.Answers.{Program, RefusesExactly}

-- a program that ensures what the twelve functions ensure
abbrev pub Meets : Program → Type 0
Meets p = (c : Call) (s : State) → Ensured c s (p c s).answer (p c s).image (p c s).desk (p c s).buffer

-- A program that refuses everything, and one that answers $00 to everything: the exact condition of each refusal shuts both out
abbrev pub NotAllRefused : Type 0
NotAllRefused = (p : Program) → RefusesExactly p → ((c : Call) (s : State) → accepts (p c s).answer ≡ false) → ⊥

abbrev pub NotAllDone : Type 0
NotAllDone = (p : Program) → RefusesExactly p → ((c : Call) (s : State) → status (p c s).answer ≡ 0x00) → ⊥

-- One that changes no image keeps demand 3; it falls to demand 2 at step 2
abbrev pub NotUnchanged : Type 0
NotUnchanged = (p : Program) → Meets p → ((c : Call) (s : State) → (p c s).image ≡ s.image) → ⊥

-- One that appends a file's first record properly and then only moves E (bytes 4-7 of the access block) falls to demand 2 at step 6
pub record OnlyMovesE (img e img' : List ℕ) : Type 0 where
  pub new_e : List ℕ
  pub four : length new_e ≡ 4
  pub only : img' ≡ put (256 * start e + 4) new_e img

abbrev pub NotOnlyE : Type 0
NotOnlyE =
    (p : Program) → Meets p
    → ((s : State) (caller lun sel num : ℕ) (fmt : Bool) (bs : List ℕ) → accepts (p (write caller lun sel num fmt bs) s).answer ≡ true
    → contiguous (file_of s lun) ≡ false → 1 ≤ extent s.image (file_of s lun)
    → OnlyMovesE s.image (file_of s lun) (p (write caller lun sel num fmt bs) s).image) → ⊥

-- An invented free count: check's is the SAT's
abbrev pub CheckCounts : Type 0
CheckCounts =
    (s : State) → step check s
    ≡ outcome (Ok (Checked (sound s.image) (if sound s.image then free s.image else 0))) s.image s.desk []
