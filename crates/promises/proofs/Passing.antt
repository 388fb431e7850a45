-- A list of rules refuses by the first that applies, or lets pass: then none applies. What that makes of a call, refused or accepted.
use mathlib.Core.Path.{◌≡◌, refl, ap, sym, ◌∙◌}
use mathlib.Core.Bool.{false, Bool, true, true≢false}
use mathlib.Core.List.{List, [], ◌∷◌}
use mathlib.Core.Logic.{◌⊎◌, inl, inr, ⊎_elim}
use Prim.Native.Nat.{ℕ, zero, suc, ◌<◌}
use native.Mathlib.Omega.{arith}
use lib.ListN.{get_or}
use Rattle.work.specs.Refusals.{Rule, ◌if◌, ruled}
use Rattle.work.specs.declared.Refusal.TheVariants.{NotSound}
use Rattle.work.specs.declared.Refusal.{Refusal}
use Rattle.work.proofs.Rules.{Passes}
use Rattle.std.specs.Prelude.{Err, Ok}
use Rattle.desk.specs.Desk.{State, state}
use Rattle.desk.specs.Answers.{Outcome, outcome, judged, accepts}
use Rattle.desk.specs.Calls.{Call, given, done, rules, step}
use Rattle.promises.specs.Answers.{First}
use Rattle.promises.specs.Runs.{next}

-- the first rule that applies, one place further on; and one place nearer
earlier : (x : Rule) (rs : List Rule) (k : ℕ) → x.holds ≡ false → ((j : ℕ) → j < k → (get_or rs j (NotSound if false)).holds ≡ false)
    → (j : ℕ) → j < suc k → (get_or (x ∷ rs) j (NotSound if false)).holds ≡ false
earlier x rs k p f zero h = p
earlier x rs k p f (suc j) h = f j (omega arith)

pub First-later : (x : Rule) (rs : List Rule) (k : ℕ) (r : Refusal) → First (x ∷ rs) (suc k) r → First rs k r
First-later x rs k r f = record {
  inside = omega (arith, f.inside);
  is_rule = f.is_rule;
  applies = f.applies;
  none_earlier = λ j h. f.none_earlier (suc j) (omega arith);
}

-- What a refused call leaves
abbrev pub refusal : Call → State → Refusal → Outcome
refusal c s r = outcome (Err r) s.image s.desk (given c)

-- one or the other
pub refuses_or_Passes : (rs : List Rule) → ((r : Refusal) × (k : ℕ) × First rs k r) ⊎ (Passes rs)
refuses_or_Passes [] = inr tt
refuses_or_Passes (x ∷ rs) = go x.holds refl (refuses_or_Passes rs)
  where
    go : (b : Bool) → x.holds ≡ b → ((r : Refusal) × (k : ℕ) × First rs k r) ⊎ (Passes rs)
        → ((r : Refusal) × (k : ℕ) × First (x ∷ rs) k r) ⊎ (Passes (x ∷ rs))
    go true p t = inl (x.refusal, 0, record { inside = omega arith; is_rule = refl; applies = p; none_earlier = λ j h. absurd (omega arith) })
    go false p (inl t) =
        inl (
          t.0,
          suc t.1,
          record {
            inside = omega (arith, t.2.inside);
            is_rule = t.2.is_rule;
            applies = t.2.applies;
            none_earlier = earlier x rs t.1 p t.2.none_earlier;
          },
        )
    go false p (inr t) = inr (p, t)

-- and what `ruled` then gives
module _ {A : Type 0} (refuse : Refusal → A) (pass : A) where
  pub ruled-First : (rs : List Rule) (k : ℕ) (r : Refusal) → First rs k r → ruled rs refuse pass ≡ refuse r
  unfolding ruled
  ruled-First [] k r f = absurd (let h : k < 0 = f.inside in omega arith)
  ruled-First (x ∷ rs) zero r f = rw (f.applies, f.is_rule)
  ruled-First (x ∷ rs) (suc k) r f =
      rw (f.none_earlier 0 (omega arith)) (ruled-First rs k r (First-later x rs k r f))

  pub ruled-Passes : (rs : List Rule) → Passes rs → ruled rs refuse pass ≡ pass
  unfolding ruled
  ruled-Passes [] p = refl
  ruled-Passes (x ∷ rs) p = rw p.0 (ruled-Passes rs p.1)

-- What a call that is carried out leaves, and the state after that
abbrev pub carried : Call → State → Outcome
carried c s = outcome (Ok (done c s).report) (done c s).image (done c s).desk (done c s).buffer

abbrev pub carried_to : Call → State → State
carried_to c s = state (done c s).image (done c s).desk

pub step-First : (c : Call) (s : State) (k : ℕ) (r : Refusal) → First (rules c s) k r → step c s ≡ refusal c s r
unfolding step judged
step-First c s k r f = ruled-First _ _ (rules c s) k r f

pub step-Passes : (c : Call) (s : State) → Passes (rules c s) → step c s ≡ carried c s
unfolding step judged
step-Passes c s p = ruled-Passes _ _ (rules c s) p

-- an accepted call: no rule applies, and it is carried out
pub record Accepted (c : Call) (s : State) : Type 0 where
  pub passes : Passes (rules c s)
  pub is : step c s ≡ carried c s

pub record WasRefused (c : Call) (s : State) : Type 0 where
  pub why : Refusal
  pub place : ℕ
  pub first : First (rules c s) place why
  pub is : step c s ≡ refusal c s why

-- each call is one or the other
pub refused_or_Accepted : (c : Call) (s : State) → (WasRefused c s) ⊎ (Accepted c s)
refused_or_Accepted c s =
    ⊎_elim
    (λ t. inl (record { why = t.0; place = t.1; first = t.2; is = step-First c s t.1 t.0 t.2 }))
    (λ p. inr (record { passes = p; is = step-Passes c s p }))
    (refuses_or_Passes (rules c s))

Refusal-not : (c : Call) (s : State) (r : Refusal) → accepts (refusal c s r).answer ≡ false
unfolding accepts
Refusal-not c s r = refl

carried-accepts : (c : Call) (s : State) → accepts (carried c s).answer ≡ true
unfolding accepts
carried-accepts c s = refl

pub accepts_it : (c : Call) (s : State) → Accepted c s → accepts (step c s).answer ≡ true
accepts_it c s a = ap (λ (o : Outcome). accepts o.answer) a.is ∙ carried-accepts c s

pub accepted : (c : Call) (s : State) → accepts (step c s).answer ≡ true → Accepted c s
accepted c s h =
    ⊎_elim
    (λ t. absurd (true≢false (sym h ∙ ap (λ (o : Outcome). accepts o.answer) t.is ∙ Refusal-not c s t.why)))
    (λ a. a)
    (refused_or_Accepted c s)

-- the state after the one, and after the other
pub next_refused : (c : Call) (s : State) → WasRefused c s → next c s ≡ s
unfolding next
next_refused c s t = ap (λ (o : Outcome). state o.image o.desk) t.is

pub next-Accepted : (c : Call) (s : State) → Accepted c s → next c s ≡ carried_to c s
unfolding next
next-Accepted c s a = ap (λ (o : Outcome). state o.image o.desk) a.is
