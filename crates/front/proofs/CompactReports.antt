-- The report of a compaction: four bytes written, how many sectors it can tell of, and what becomes of it in each case.
use Rattle.std.specs.Prelude.{if◌then◌else◌}
use mathlib.Core.Path.{◌≡◌, refl, ap, ◌∙◌}
use mathlib.Core.Bool.{Bool, true, false, not}
use mathlib.Core.List.{List, [], ◌∷◌}
use Prim.Native.Nat.{ℕ, ◌<◌}
use native.Mathlib.Omega.{arith}
use lib.Dec.{eqb, ltb}
use lib.ListN.{length, set}
use borrow.Author.Tests.{eq-eqb, ne_eqb, ltb-false}
use Rattle.numbers.specs.Numbers.{most_quota}
use Rattle.lists.specs.Parts.{bytes2, put}
use Rattle.compaction.specs.Compaction.{compacted}
use Rattle.compaction.specs.declared.Ending.{Ending}
use Rattle.compaction.proofs.Quota.{compacted_most}
use Rattle.work.specs.declared.Refusal.TheVariants.{NotSound, OutOfRange}
use Rattle.work.specs.Refusals.{ruled}
use Rattle.deskbytes.specs.DeskBytes.{desk_form}
use Rattle.desk.specs.Answers.{Answer}
use Rattle.std.specs.Prelude.{Ok, Err}
use Rattle.desk.specs.declared.Report.TheVariants.{Compacted}
use Rattle.desk.specs.declared.Desk.{Desk}
use Rattle.desk.specs.declared.Reply.{Reply}
use Rattle.desk.specs.Desk.{State, state, ready}
use Rattle.desk.specs.Answers.{Outcome, outcome, judged}
use Rattle.desk.specs.Calls.{compact, compact_rules, rules, done, given, closed_up_to, step}
use Rattle.front.specs.Front.{unpacked_desk, report_size, ending_number, report_bytes, reported, report_after}
use Rattle.front.specs.Code.Tallies.{tallied}

-- four bytes, written one after the other
four : (rep : List ℕ) (a w : ℕ) → length rep ≡ 4 → put 2 (bytes2 w) (set (set rep 0 a) 1 0) ≡ a ∷ 0 ∷ bytes2 w
unfolding put
four [] a w h = absurd (omega arith)
four (x ∷ []) a w h = absurd (omega arith)
four (x ∷ y ∷ []) a w h = absurd (omega arith)
four (x ∷ y ∷ z ∷ []) a w h = absurd (omega arith)
four (x ∷ y ∷ z ∷ u ∷ []) a w h = refl
four (x ∷ y ∷ z ∷ u ∷ t ∷ rep) a w h = absurd (omega arith)

pub report_written : (rep rep' : List ℕ) (a n : ℕ) (why : Ending) → length rep ≡ report_size → a ≡ ending_number why
    → rep' ≡ put 2 (bytes2 n) (set (set rep 0 a) 1 0) → rep' ≡ (if eqb (length rep) report_size then report_bytes n why else rep)
report_written rep rep' a n why h ea e = rw (eq-eqb (length rep) report_size h) (e ∙ four rep a n h ∙ ap (λ (x : ℕ). x ∷ 0 ∷ bytes2 n) ea)

pub report_left : (rep : List ℕ) (n : ℕ) (why : Ending) → (length rep ≡ report_size → ⊥) → rep ≡ (if eqb (length rep) report_size then report_bytes n why else rep)
report_left rep n why h = rw (ne_eqb (length rep) report_size h)

-- a word holds the sectors that a compaction moved
pub tally_few : (s : State) (n : ℕ) → tallied (step (compact n) s).answer < 65536
unfolding step rules compact_rules done closed_up_to given judged ruled
tally_few s n = go (not (ready s)) (ltb most_quota n) refl
  where
    go : (a b : Bool) → ltb most_quota n ≡ b
        → tallied (if a then outcome (Err NotSound) s.image s.desk []
        else (if b then outcome (Err OutOfRange) s.image s.desk []
        else outcome (Ok (Compacted (compacted n s.image).moved (compacted n s.image).ending)) (compacted n s.image).image s.desk [])).answer < 65536
    go true b e = omega arith
    go false true e = omega arith
    go false false e = omega (arith, ltb-false most_quota n e, compacted_most n s.image)

module _ (n : ℕ) (img bs rep : List ℕ) where
  pub report_bad : desk_form bs ≡ false → rep ≡ report_after n img bs rep
  unfolding report_after ruled
  report_bad e = rw e

  pub report_done : (r : Reply) (d : Desk) (img' buf rep' : List ℕ) → desk_form bs ≡ true → d ≡ unpacked_desk bs
      → outcome r.answer img' r.desk buf ≡ step (compact n) (state img d) → rep' ≡ reported r.answer rep → rep' ≡ report_after n img bs rep
  unfolding report_after ruled
  report_done r d img' buf rep' e ed q er =
      rw e (er ∙ ap (λ (a : Answer). reported a rep) (ap (λ (o : Outcome). o.answer) q ∙ ap (λ (x : Desk). (step (compact n) (state img x)).answer) ed))
