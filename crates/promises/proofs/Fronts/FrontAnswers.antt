-- Demand 1 through the front, and its order of refusals.
use Rattle.std.specs.Prelude.{if◌then◌else◌}
use mathlib.Core.Bool.{true, not}
use mathlib.Core.List.{List, [], ◌∷◌, ◌++◌}
use mathlib.Core.Logic.{⊎_elim, ◌≢◌}
use mathlib.Core.Path.{◌≡◌, refl, ap, sym, subst, ◌∙◌}
use Prim.Native.Nat.{ℕ}
use lib.Dec.{eqb}
use lib.ListN.{length}
use borrow.Author.Tests.{ne_eqb}
use Rattle.lists.specs.Lists.{among}
use Rattle.work.specs.declared.Refusal.{Refusal}
use Rattle.work.specs.declared.Refusal.TheVariants.{NotSound}
use Rattle.work.specs.Refusals.{Rule, ◌if◌, code, ruled}
use Rattle.work.proofs.Rules.{ruled_map}
use Rattle.deskbytes.specs.DeskBytes.{desk_size, desk_form}
use Rattle.desk.specs.Answers.{Answer}
use Rattle.std.specs.Prelude.{Ok, Err}
use Rattle.desk.specs.declared.Desk.{Desk}
use Rattle.desk.specs.Desk.{state, empty_desk}
use Rattle.desk.specs.Answers.{Outcome, status, accepts, judged}
use Rattle.desk.specs.Calls.{Call, format, bring_up, rules, step}
use Rattle.front.specs.Blocks.{block_size, start_in, block_after}
use Rattle.front.specs.Areas.{task_after, shared_after}
use Rattle.front.specs.Front.{packed_desk, unpacked_desk, desk_after, Served, served, served_by, serve, serve_format, serve_bring_up, Lent, lent, Ended, front_rules, asked, turned_back}
use Rattle.front.specs.Front.{carried_out}
use Rattle.front.specs.Front.{front}
use Rattle.promises.specs.Answers.{status_table}
use Rattle.promises.specs.Fronts.{state_of, Request-iocb, formats, brings_up, calls, leaves, FrontInTable, RequestRefusalKeeps, LentKept, FrontRefusalKeeps, ShortBlock}
use Rattle.promises.specs.Fronts.{FrontRefusedExactly}
use Rattle.promises.specs.Fronts.{OneEnding}
use Rattle.promises.proofs.Answers.{Answer-in_table, in_table, refusal_keeps}
use Rattle.promises.proofs.Passing.{refuses_or_Passes, ruled-First, ruled-Passes}
use Rattle.promises.proofs.Fronts.FrontCases.{PassedFront, front_cases, Lent-back, task_same, shared_same}

-- what is returned is an answer's number
pub refused_number : (a : Answer) (l : Lent) → (turned_back a l).returned ≡ status a
unfolding turned_back
refused_number a l = refl

pub carried_number : (o : Outcome) (l : Lent) → (carried_out o l).returned ≡ status o.answer
unfolding carried_out
carried_number o l = refl

block_in_table : (caller : ℕ) (l : Lent) → among (front caller l).returned status_table ≡ true
block_in_table caller l =
    ⊎_elim
    (λ r. ap (λ (e : Ended). among e.returned status_table) r.is ∙ ap (λ (n : ℕ). among n status_table) (refused_number (Err r.why) l)
    ∙ Answer-in_table (Err r.why))
    (λ p. ap (λ (e : Ended). among e.returned status_table) p.is ∙ ap (λ (n : ℕ). among n status_table) (carried_number _ l)
    ∙ Answer-in_table (step (asked caller l) (state_of l)).answer)
    (front_cases caller l)

-- an answer is done, or a refusal
pub data Which (a : Answer) : Type 0 where
  was_done : accepts a ≡ true → status a ≡ 0 → Which a
  was_refused : (why : Refusal) → a ≡ Err why → Which a

pub which : (a : Answer) → Which a
unfolding accepts
which (Ok r) = was_done refl refl
which (Err why) = was_refused why refl

refused_keeps : (a : Answer) (l : Lent) → LentKept l (turned_back a l).left
unfolding turned_back
refused_keeps a l = record { image_kept = refl; desk_kept = refl; task_kept = refl; shared_kept = refl }

Desk-refused : (a : Answer) (d : Desk) (bs : List ℕ) (why : Refusal) → a ≡ Err why → desk_after a d bs ≡ bs
unfolding desk_after accepts
Desk-refused a d bs why e = ap (λ (x : Answer). if accepts x then packed_desk d else bs) e

carried_keeps : (caller : ℕ) (l : Lent) → PassedFront caller l → (why : Refusal) → (step (asked caller l) (state_of l)).answer ≡ Err why
    → LentKept l (carried_out (step (asked caller l) (state_of l)) l).left
unfolding carried_out
carried_keeps caller l p why e =
    let k = refusal_keeps (asked caller l) (state_of l) why e in record {
      image_kept = k.image_kept;
      desk_kept = Desk-refused _ _ l.desk why e;
      task_kept = ap (λ (b : List ℕ). task_after (start_in l.block) b l.task) k.buffer_kept ∙ task_same _ _ l.task l.shared (Lent-back caller l p);
      shared_kept = ap (λ (b : List ℕ). shared_after (start_in l.block) b l.shared) k.buffer_kept ∙ shared_same _ _ l.task l.shared (Lent-back caller l p);
    }

pub front_refusal_keeps : FrontRefusalKeeps
front_refusal_keeps caller l n =
    ⊎_elim
    (λ r. subst (λ (e : Ended). LentKept l e.left) (sym r.is) (refused_keeps (Err r.why) l))
    (λ p. subst (λ (e : Ended). LentKept l e.left) (sym p.is) (go p (which (step (asked caller l) (state_of l)).answer)))
    (front_cases caller l)
  where
    go : PassedFront caller l → Which (step (asked caller l) (state_of l)).answer → LentKept l (carried_out (step (asked caller l) (state_of l)) l).left
    go p (was_done a z) = absurd (n (ap (λ (e : Ended). e.returned) p.is ∙ carried_number _ l ∙ z))
    go p (was_refused why e) = carried_keeps caller l p why e

-- the same of calls over image and desk bytes: a rule of the front, or the call
module _ (rs : List Rule) (o : Outcome) (img bs : List ℕ) where
  served_in_table : among (ruled rs (λ why. served (status (Err why)) img bs) (served_by o bs)).returned status_table ≡ true
  served_in_table =
      ⊎_elim
      (λ t. ap (λ (v : Served). among v.returned status_table) (ruled-First _ _ rs t.1 t.0 t.2) ∙ Answer-in_table (Err t.0))
      (λ p. ap (λ (v : Served). among v.returned status_table) (ruled-Passes _ _ rs p) ∙ Answer-in_table o.answer)
      (refuses_or_Passes rs)

  served_keeps : ((why : Refusal) → o.answer ≡ Err why → o.image ≡ img) → (ruled rs (λ why. served (status (Err why)) img bs) (served_by o bs)).returned ≢ 0x00
      → ((ruled rs (λ why. served (status (Err why)) img bs) (served_by o bs)).image ≡ img)
      × ((ruled rs (λ why. served (status (Err why)) img bs) (served_by o bs)).desk ≡ bs)
  served_keeps k n =
      ⊎_elim
      (λ t.
      let q = ruled-First (λ why. served (status (Err why)) img bs) (served_by o bs) rs t.1 t.0 t.2 in
      (ap (λ (v : Served). v.image) q, ap (λ (v : Served). v.desk) q))
      (λ p. go (ruled-Passes (λ why. served (status (Err why)) img bs) (served_by o bs) rs p) (which o.answer))
      (refuses_or_Passes rs)
    where
      go : ruled rs (λ why. served (status (Err why)) img bs) (served_by o bs) ≡ served_by o bs → Which o.answer
          → ((ruled rs (λ why. served (status (Err why)) img bs) (served_by o bs)).image ≡ img)
          × ((ruled rs (λ why. served (status (Err why)) img bs) (served_by o bs)).desk ≡ bs)
      go q (was_done h z) = absurd (n (ap (λ (v : Served). v.returned) q ∙ z))
      go q (was_refused why e) = (ap (λ (v : Served). v.image) q ∙ k why e, ap (λ (v : Served). v.desk) q ∙ Desk-refused _ _ bs why e)

pub front_in_table : FrontInTable
unfolding leaves serve serve_format serve_bring_up
front_in_table (Request-iocb caller b t s) img bs = block_in_table caller (lent b img bs t s)
front_in_table (formats id n) img bs = served_in_table (NotSound if not (eqb (length bs) desk_size) ∷ []) (step (format id n) (state img empty_desk)) img bs
front_in_table brings_up img bs = in_table bring_up (state img empty_desk)
front_in_table (calls c) img bs = served_in_table (NotSound if not (desk_form bs) ∷ []) (step c (state img (unpacked_desk bs))) img bs

pub request_refusal_keeps : RequestRefusalKeeps
unfolding leaves serve serve_format serve_bring_up
request_refusal_keeps (Request-iocb caller b t s) img bs n =
    let k = front_refusal_keeps caller (lent b img bs t s) n in
    (k.image_kept, k.desk_kept)
request_refusal_keeps (formats id m) img bs n =
    served_keeps (NotSound if not (eqb (length bs) desk_size) ∷ []) (step (format id m) (state img empty_desk)) img bs
    (λ why e. (refusal_keeps (format id m) (state img empty_desk) why e).image_kept) n
request_refusal_keeps brings_up img bs n = go (which (step bring_up (state img empty_desk)).answer)
  where
    go : Which (step bring_up (state img empty_desk)).answer → ((step bring_up (state img empty_desk)).image ≡ img) × (bs ≡ bs)
    go (was_done h z) = absurd (n z)
    go (was_refused why e) = ((refusal_keeps bring_up (state img empty_desk) why e).image_kept, refl)
request_refusal_keeps (calls c) img bs n =
    served_keeps (NotSound if not (desk_form bs) ∷ []) (step c (state img (unpacked_desk bs))) img bs
    (λ why e. (refusal_keeps c (state img (unpacked_desk bs)) why e).image_kept) n

pub short_block : ShortBlock
unfolding front front_rules ruled turned_back block_after
short_block caller l n = rw (ne_eqb (length l.block) block_size n)

-- one list of rules after the other
ruled_more : {A : Type 0} (rs qs : List Rule) (refuse : Refusal → A) (done : A) → ruled rs refuse (ruled qs refuse done) ≡ ruled (rs ++ qs) refuse done
unfolding ruled
ruled_more [] qs refuse done = refl
ruled_more (r ∷ rs) qs refuse done = ap (λ x. if r.holds then refuse r.refusal else x) (ruled_more rs qs refuse done)

step_number : (c : Call) (l : Lent) → status (step c (state_of l)).answer ≡ ruled (rules c (state_of l)) code 0x00
unfolding step judged
step_number c l = ruled_map (λ (o : Outcome). status o.answer) _ _ (rules c (state_of l))

pub front_refused_exactly : FrontRefusedExactly
unfolding front turned_back
front_refused_exactly caller l =
    ruled_map (λ (e : Ended). e.returned) (λ why. turned_back (Err why) l) _ (front_rules l)
    ∙ ap (λ (n : ℕ). ruled (front_rules l) code n) (carried_number _ l ∙ step_number (asked caller l) l)
    ∙ ruled_more (front_rules l) (rules (asked caller l) (state_of l)) code 0x00

-- equal records have equal fields
same_Served : (x : Served) (n n' : ℕ) (a a' b b' : List ℕ) → served n a b ≡ x → served n' a' b' ≡ x → (n ≡ n') × (a ≡ a') × (b ≡ b')
same_Served x n n' a a' b b' e f =
    let q : served n a b ≡ served n' a' b' = e ∙ sym f in
    (ap (λ (v : Served). v.returned) q, ap (λ (v : Served). v.image) q, ap (λ (v : Served). v.desk) q)

pub one_ending : OneEnding
one_ending = record {
  of_blocks = λ caller l n n' m m' e f. (ap (λ (x : Ended). x.returned) (e ∙ sym f), ap (λ (x : Ended). x.left) (e ∙ sym f));
  of_calls = λ c img bs. same_Served (serve c img bs);
  of_format = λ id dirs img bs. same_Served (serve_format id dirs img bs);
  of_bring_up = λ img n n' a a' e f. let q = same_Served (serve_bring_up img []) n n' a a' [] [] e f in (q.0, q.1);
  of_report = λ quota img bs rep a a' e f. e ∙ sym f;
  of_check = λ img n n' e f. e ∙ sym f;
}
