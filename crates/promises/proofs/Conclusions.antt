-- Hollow programs fall: to check, which has no rule; to an image that is no volume; to steps 2 and 6 of the small volume.
use mathlib.Core.Path.{refl, ◌≡◌, ap, sym, ◌∙◌}
use mathlib.Core.Bool.{false, true≢false, true}
use mathlib.Core.List.{[], List, ◌++◌}
use Prim.Native.Nat.{ℕ, ◌<◌, ◌+◌}
use native.Mathlib.Omega.{arith}
use lib.ListN.{take, get_or, length, drop, length-take, get_or-append, replicate}
use lib.Seq.{get_or-take}
use Rattle.lists.specs.Parts.{put}
use Rattle.volume.specs.Directory.{contiguous, start}
use Rattle.files.specs.Files.{extent}
use Rattle.work.specs.Refusals.{ruled}
use Rattle.work.specs.declared.Refusal.{Refusal}
use Rattle.work.specs.declared.Refusal.TheVariants.{NotSound}
use Rattle.desk.specs.Answers.{judged, accepts, status, Outcome}
use Rattle.desk.specs.Calls.{rules, done, checked, given, step, check, close, Call, allocate, write}
use Rattle.desk.specs.Desk.{State, state, empty_desk, file_of}
use Rattle.desk.specs.Answers.{Answer}
use Rattle.std.specs.Prelude.{Ok, Err}
use Rattle.promises.specs.Conclusions.{CheckCounts, NotAllRefused, NotAllDone, NotUnchanged, NotOnlyE}
use Rattle.promises.specs.Answers.{First}
use Rattle.promises.specs.Steps.{blank, service_open, calls, story, desc_of, desc}
use Rattle.promises.specs.Runs.{run, next}
use Rattle.promises.proofs.Answers.{refused-First}

pub check_counts : CheckCounts
unfolding step judged ruled rules done checked given
check_counts s = refl

-- Refusing all: check has no rule
no_rule : (s : State) (k : ℕ) (r : Refusal) → First (rules check s) k r → ⊥
unfolding rules
no_rule s k r f = let h : k < 0 = f.inside in omega arith

refused_for : (a : Answer) → accepts a ≡ false → (r : Refusal) × (a ≡ Err r)
unfolding accepts
refused_for (Ok r) h = absurd (true≢false h)
refused_for (Err r) h = (r, refl)

pub not_all_refused : NotAllRefused
not_all_refused p exactly h =
    let t = refused_for (p check blank).answer (h check blank) in
    let f = (exactly check blank t.0).0 t.1 in
    no_rule blank f.0 t.0 f.1

-- Always $00: a call on no bytes at all is refused
nowhere : State
nowhere = state [] empty_desk

close-refused : (step (close 0 0) nowhere).answer ≡ Err NotSound
unfolding nowhere service_open
close-refused = refl

pub not_all_done : NotAllDone
not_all_done p exactly h =
    let first-rule = refused-First (close 0 0) nowhere NotSound close-refused in
    let e : (p (close 0 0) nowhere).answer ≡ Err NotSound = (exactly (close 0 0) nowhere NotSound).1 first-rule in
    let z : ◌≡◌ {A = ℕ} 0x6F 0 = sym (ap status e) ∙ h (close 0 0) nowhere in
    omega arith

-- the state of the small volume after the first n calls of the story
reached : ℕ → State
reached n = run (take n (calls story)) blank

-- Changing nothing: step 2 changes the SAT's first byte
sat_byte : List ℕ → ℕ
sat_byte img = get_or img 256 0

byte_1 : sat_byte (reached 1).image ≡ 0xE0
unfolding sat_byte reached story blank desc_of desc next run service_open
byte_1 = refl

byte_2 : sat_byte (step (allocate 5 (desc 88) 0 3 0 0) (reached 1)).image ≡ 0xFC
unfolding sat_byte reached story blank desc_of desc next run service_open
byte_2 = refl

pub not_unchanged : NotUnchanged
not_unchanged p meets h =
    let c : Call = allocate 5 (desc 88) 0 3 0 0 in
    let e : (step c (reached 1)).image ≡ (reached 1).image = sym (ap (λ (o : Outcome). o.image) (meets c (reached 1))) ∙ h c (reached 1) in
    let z : ◌≡◌ {A = ℕ} 0xFC 0xE0 = sym byte_2 ∙ ap sat_byte e ∙ byte_1 in
    omega arith

-- Only moving E: step 6 changes that byte too, which lies before the access block
sat_put : (a : ℕ) (n img : List ℕ) → 256 < a → 256 < length img → sat_byte (put a n img) ≡ sat_byte img
unfolding put sat_byte
sat_put a n img h l =
    get_or-append (take a img) (n ++ drop (a + length n) img) 0 256 (simp length-take (omega arith)) ∙ get_or-take a img 256 0 h

step_6 : Call
step_6 = write 5 0 0 0 false (replicate 250 1)

-- what step 6 finds: a sequential file with a record, its access block behind the SAT
record AtStep6 : Type 0 where
  is_done : accepts (step step_6 (reached 7)).answer ≡ true
  sequential : contiguous (file_of (reached 7) 0) ≡ false
  one_record : extent (reached 7).image (file_of (reached 7) 0) ≡ 1
  block_at : start (file_of (reached 7) 0) ≡ 6
  long : length (reached 7).image ≡ 4096
  byte_was : sat_byte (reached 7).image ≡ 0xE3
  byte_is : sat_byte (step step_6 (reached 7)).image ≡ 0xF3

found : AtStep6
unfolding sat_byte reached story blank desc_of desc next run step_6 service_open
found = record { is_done = refl; sequential = refl; one_record = refl; block_at = refl; long = refl; byte_was = refl; byte_is = refl }

pub not_only_e : NotOnlyE
unfolding step_6
not_only_e p meets h =
    let s : State = reached 7 in
    let m : p step_6 s ≡ step step_6 s = meets step_6 s in
    let yes-done : accepts (p step_6 s).answer ≡ true = ap (λ (o : Outcome). accepts o.answer) m ∙ found.is_done in
    let E = h s 5 0 0 0 false (replicate 250 1) yes-done found.sequential (omega (arith, found.one_record)) in
    let z : ◌≡◌ {A = ℕ} 0xF3 0xE3 =
    sym found.byte_is
    ∙ ap (λ (o : Outcome). sat_byte o.image) (sym m)
    ∙ ap sat_byte E.only
    ∙ sat_put _ E.new_e s.image (omega (arith, found.block_at)) (omega (arith, found.long))
    ∙ found.byte_was in
    omega arith
