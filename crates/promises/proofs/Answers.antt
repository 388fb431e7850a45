-- Demand 1 and the refusals of demand 2, from the law of lists of rules.
use mathlib.Core.Path.{◌≡◌, refl, ap, sym, ◌∙◌}
use mathlib.Core.Bool.{true, false, not}
use mathlib.Core.List.{List, ◌∷◌}
use mathlib.Core.Logic.{⊎_elim}
use Prim.Native.Nat.{ℕ}
use native.Mathlib.Omega.{arith}
use Rattle.lists.specs.Lists.{among, ◌or◌}
use Rattle.work.specs.declared.Refusal.{Refusal}
use Rattle.work.specs.declared.Refusal.TheVariants.{UnknownType, BadLun, WrongCode, NoRight, InUse, NoFile, BadRequest, BadLength, PastEnd, OutOfRange, OtherLength, Exists}
use Rattle.work.specs.declared.Refusal.TheVariants.{NoRoom}
use Rattle.work.specs.declared.Refusal.TheVariants.{BadDescriptor, NoSegment, NameTaken, DirectoryFull, NotSound}
use Rattle.work.specs.Refusals.{code, Rule, ◌if◌}
use Rattle.desk.specs.Answers.{Answer}
use Rattle.std.specs.Prelude.{Ok, Err}
use Rattle.desk.specs.Answers.{status, Outcome, moved, outcome}
use Rattle.desk.specs.Calls.{step, Call, rules, format, check, bring_up, compact, allocate, assign, close, rewind, delete, read, write, update, begin_rules, open_rules, assign_rules}
use Rattle.desk.specs.Calls.{compact_rules}
use Rattle.desk.specs.Calls.{delete_rules}
use Rattle.desk.specs.Desk.{State, ready}
use Rattle.promises.specs.Answers.{status_table, InTable, First, RefusedExactly, RefusalKeeps, UnreadyRefused, OneOutcome}
use Rattle.promises.proofs.Passing.{refused_or_Accepted, step-First, refusal}

code_in_table : (r : Refusal) → among (code r) status_table ≡ true
unfolding status_table among ◌or◌
code_in_table UnknownType = refl
code_in_table BadLun = refl
code_in_table WrongCode = refl
code_in_table NoRight = refl
code_in_table InUse = refl
code_in_table NoFile = refl
code_in_table BadRequest = refl
code_in_table BadLength = refl
code_in_table PastEnd = refl
code_in_table OutOfRange = refl
code_in_table OtherLength = refl
code_in_table Exists = refl
code_in_table NoRoom = refl
code_in_table BadDescriptor = refl
code_in_table NoSegment = refl
code_in_table NameTaken = refl
code_in_table DirectoryFull = refl
code_in_table NotSound = refl

pub Answer-in_table : (a : Answer) → among (status a) status_table ≡ true
unfolding status_table among ◌or◌
Answer-in_table (Ok r) = refl
Answer-in_table (Err why) = code_in_table why

pub in_table : InTable
in_table c s = Answer-in_table (step c s).answer

-- a call that answers a refusal was refused by the first rule that applies
pub refused-First : (c : Call) (s : State) (r : Refusal) → (step c s).answer ≡ Err r → (k : ℕ) × First (rules c s) k r
refused-First c s r e =
    ⊎_elim
    (λ t.
    let q : t.why ≡ r = let x : Err t.why ≡ Err r = sym (ap (λ (o : Outcome). o.answer) t.is) ∙ e in cc in
    (t.place, rw q at t.first))
    (λ a. let z : ◌≡◌ {A = ℕ} 0 1 = let x = sym (ap (λ (o : Outcome). o.answer) a.is) ∙ e in cc in absurd (omega arith))
    (refused_or_Accepted c s)

pub refused_exactly : RefusedExactly
refused_exactly c s r = (refused-First c s r, λ f. ap (λ (o : Outcome). o.answer) (step-First c s f.0 r f.1))

pub refusal_keeps : RefusalKeeps
refusal_keeps c s r e =
    let f = refused-First c s r e in
    let q : step c s ≡ refusal c s r = step-First c s f.0 r f.1 in
    record {
      its_number = ap (λ (o : Outcome). status o.answer) q;
      length_0 = ap (λ (o : Outcome). moved o.answer) q;
      image_kept = ap (λ (o : Outcome). o.image) q;
      desk_kept = ap (λ (o : Outcome). o.desk) q;
      buffer_kept = ap (λ (o : Outcome). o.buffer) q;
    }

-- all calls but format, check and bring-up begin with the rule of a state that is not ready
unready : (c : Call) (s : State) (rs : List Rule) → rules c s ≡ NotSound if not (ready s) ∷ rs → ready s ≡ false → (step c s).answer ≡ Err NotSound
unready c s rs e h =
    let first-rule : First (NotSound if not (ready s) ∷ rs) 0 NotSound = record {
      inside = omega arith;
      is_rule = refl;
      applies = ap not h;
      none_earlier = λ j l. absurd (omega arith);
    } in
    ap (λ (o : Outcome). o.answer) (step-First c s 0 NotSound (rw e first-rule))

pub unready_refused : UnreadyRefused
unfolding rules begin_rules open_rules assign_rules delete_rules compact_rules
unready_refused (format id n) s f k u h = absurd (f id n refl)
unready_refused check s f k u h = absurd (k refl)
unready_refused bring_up s f k u h = absurd (u refl)
unready_refused (compact n) s f k u h = unready (compact n) s _ refl h
unready_refused (allocate caller desc i n l rc) s f k u h = unready (allocate caller desc i n l rc) s _ refl h
unready_refused (assign caller lun desc mode end offered) s f k u h = unready (assign caller lun desc mode end offered) s _ refl h
unready_refused (close caller lun) s f k u h = unready (close caller lun) s _ refl h
unready_refused (rewind caller lun) s f k u h = unready (rewind caller lun) s _ refl h
unready_refused (delete caller desc) s f k u h = unready (delete caller desc) s _ refl h
unready_refused (read caller lun sel num fmt buf) s f k u h = unready (read caller lun sel num fmt buf) s _ refl h
unready_refused (write caller lun sel num fmt bs) s f k u h = unready (write caller lun sel num fmt bs) s _ refl h
unready_refused (update caller lun sel num fmt bs) s f k u h = unready (update caller lun sel num fmt bs) s _ refl h

pub one_outcome : OneOutcome
one_outcome c s a a' img img' d d' buf buf' e f =
    let q : outcome a img d buf ≡ outcome a' img' d' buf' = e ∙ sym f in
    record {
      answers = ap (λ (o : Outcome). o.answer) q;
      images = ap (λ (o : Outcome). o.image) q;
      desks = ap (λ (o : Outcome). o.desk) q;
      buffers = ap (λ (o : Outcome). o.buffer) q;
    }
