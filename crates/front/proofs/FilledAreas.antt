-- Parts of one of two areas: what comes back of a lent one, and what a read leaves in them.
use mathlib.Core.Bool.{Bool, true, false}
use mathlib.Core.List.{List, [], ◌∷◌, ◌++◌}
use mathlib.Core.Path.{◌≡◌, refl, ap, sym, subst, ◌∙◌}
use native.Mathlib.Omega.{arith}
use Prim.Native.Nat.{ℕ, ◌-◌, ◌≤◌, ◌<◌}
use lib.ListN.{length, take, drop}
use borrow.Author.Tests.{leb-true, ltb-true}
use borrow.Rule.Slice.PartMut.{put_mid, mid_len}
use Rattle.lists.specs.Parts.{put}
use Rattle.lists.proofs.Puts.{put_mid_lem, put-part}
use Rattle.lists.proofs.Tests.{and_left, and_right}
use Rattle.desk.specs.declared.Reply.{Reply}
use Rattle.desk.specs.Desk.{State}
use Rattle.desk.specs.Answers.{Outcome, outcome}
use Rattle.desk.specs.Calls.{Call, step}
use Rattle.front.specs.declared.areas.Span.{Span}
use Rattle.front.specs.Areas.{names_shared, offset, area, inside}
use Rattle.front.specs.Code.Passed.{FillsPart, FillsArea}
use Rattle.front.specs.Code.Spans.{span_of, Within, part_of}

-- a part that came back as long as it was lent
pub came_back : (a e : ℕ) (l b : List ℕ) → a ≤ e → e ≤ length l → length b ≡ length (take (e - a) (drop a l)) → put_mid a (e - a) l b ≡ put a b l
came_back a e l b h g n = put_mid_lem a e l b h (n ∙ mid_len a e l g)

-- a read into a part, by its one equation
pub fills_part : (r : Reply) (o : Outcome) (img b last : List ℕ) (a e : ℕ) → a ≤ e → e ≤ length b → length last ≡ length (take (e - a) (drop a b))
    → outcome r.answer img r.desk last ≡ o → FillsPart r o img a b (put_mid a (e - a) b last)
fills_part r o img b last a e h g n q = record {
  its_answer = ap (λ (x : Outcome). x.answer) q;
  its_desk = ap (λ (x : Outcome). x.desk) q;
  image_kept = ap (λ (x : Outcome). x.image) q;
  its_area = came_back a e b last h g n ∙ ap (λ (x : Outcome). put a x.buffer b) q;
}

-- an empty part that came back leaves its area as it was
pub none_before : (ys xs : List ℕ) → length ys ≡ 0 → ys ++ xs ≡ xs
none_before [] xs e = refl
none_before (y ∷ ys) xs e = absurd (omega (arith, e))

area-true : (b : Bool) (t s : List ℕ) → b ≡ true → area b t s ≡ s
area-true b t s e = ap (λ (x : Bool). area x t s) e

area-false : (b : Bool) (t s : List ℕ) → b ≡ false → area b t s ≡ t
area-false b t s e = ap (λ (x : Bool). area x t s) e

-- a read into the shared segment, or into the task's own area; n is the area as it was lent, n' as it came back
module _ (r : Reply) (o : List ℕ → Outcome) (img : List ℕ) (p : Span) (t s t' s' n n' : List ℕ) (f : FillsPart r (o (part_of p n)) img p.from n n') where
  pub fills_second : p.shared ≡ true → n ≡ s → t' ≡ t → s' ≡ n' → FillsArea r (o (part_of p (area p.shared t s))) img p t s t' s'
  fills_second e en et es =
      let q : part_of p n ≡ part_of p (area p.shared t s) = ap (part_of p) (en ∙ sym (area-true p.shared t s e)) in record {
        its_answer = f.its_answer ∙ ap (λ (b : List ℕ). (o b).answer) q;
        its_desk = f.its_desk ∙ ap (λ (b : List ℕ). (o b).desk) q;
        image_kept = f.image_kept ∙ ap (λ (b : List ℕ). (o b).image) q;
        its_task = et ∙ sym (area-true p.shared _ t e);
        its_shared =
            es
            ∙ f.its_area
            ∙ (λ i. put p.from (o (q i)).buffer (en i))
            ∙ sym (area-true p.shared s _ e);
      }

  pub fills_first : p.shared ≡ false → n ≡ t → t' ≡ n' → s' ≡ s → FillsArea r (o (part_of p (area p.shared t s))) img p t s t' s'
  fills_first e en et es =
      let q : part_of p n ≡ part_of p (area p.shared t s) = ap (part_of p) (en ∙ sym (area-false p.shared t s e)) in record {
        its_answer = f.its_answer ∙ ap (λ (b : List ℕ). (o b).answer) q;
        its_desk = f.its_desk ∙ ap (λ (b : List ℕ). (o b).desk) q;
        image_kept = f.image_kept ∙ ap (λ (b : List ℕ). (o b).image) q;
        its_task =
            et
            ∙ f.its_area
            ∙ (λ i. put p.from (o (q i)).buffer (en i))
            ∙ sym (area-false p.shared _ t e);
        its_shared = es ∙ sym (area-false p.shared s _ e);
      }

-- a write or an update, which leaves its bytes: both areas are as they were
fills_same : (r : Reply) (o : Outcome) (img t s : List ℕ) (p : Span) → Within p t s → outcome r.answer img r.desk (part_of p (area p.shared t s)) ≡ o
    → FillsArea r o img p t s t s
fills_same r o img t s p w q = record {
  its_answer = ap (λ (x : Outcome). x.answer) q;
  its_desk = ap (λ (x : Outcome). x.desk) q;
  image_kept = ap (λ (x : Outcome). x.image) q;
  its_task = sym (first p.shared t s o.buffer w.ordered w.within (sym (ap (λ (x : Outcome). x.buffer) q)));
  its_shared = sym (other p.shared t s o.buffer w.ordered w.within (sym (ap (λ (x : Outcome). x.buffer) q)));
}
  where
    first : (b : Bool) (t s buf : List ℕ) → p.from ≤ p.to → p.to ≤ length (area b t s) → buf ≡ part_of p (area b t s) → area b (put p.from buf t) t ≡ t
    first true t s buf h g e = refl
    first false t s buf h g e = ap (λ (x : List ℕ). put p.from x t) e ∙ put-part p.from (p.to - p.from) t (omega arith)

    other : (b : Bool) (t s buf : List ℕ) → p.from ≤ p.to → p.to ≤ length (area b t s) → buf ≡ part_of p (area b t s) → area b s (put p.from buf s) ≡ s
    other true t s buf h g e = ap (λ (x : List ℕ). put p.from x s) e ∙ put-part p.from (p.to - p.from) s (omega arith)
    other false t s buf h g e = refl

pub fills_sent : (r : Reply) (o : List ℕ → Outcome) (img t s bs : List ℕ) (p : Span) → Within p t s → bs ≡ part_of p (area p.shared t s)
    → outcome r.answer img r.desk bs ≡ o bs → FillsArea r (o (part_of p (area p.shared t s))) img p t s t s
fills_sent r o img t s bs p w e q = fills_same r _ img t s p w (subst (λ (b : List ℕ). outcome r.answer img r.desk b ≡ o b) e q)

-- of a call by another name
pub fills_by : (r : Reply) (k l : Call) (u : State) (img t s t' s' : List ℕ) (p : Span) → k ≡ l → FillsArea r (step k u) img p t s t' s'
    → FillsArea r (step l u) img p t s t' s'
fills_by r k l u img t s t' s' p e f = subst (λ (c : Call). FillsArea r (step c u) img p t s t' s') e f

-- the span of two addresses whose part is inside
pub inside-Within : (a e : ℕ) (t s : List ℕ) → inside a e t s ≡ true → Within (span_of a e) t s
unfolding inside
inside-Within a e t s h =
    let x : offset a ≤ offset e = leb-true _ _ (and_right _ _ (and_left _ _ h)) in
    let y : offset e < length (area (names_shared a) t s) = ltb-true _ _ (and_right _ _ h) in
    record { ordered = omega arith; within = omega arith }
