-- The steps one after the other: how they start, what the two searches find, each of the three ends, and one step more.
use mathlib.Core.Path.{◌≡◌, sym, ap, ◌∙◌}
use mathlib.Core.Bool.{Bool, true, false}
use mathlib.Core.List.{List}
use Prim.Native.Nat.{ℕ, suc, ◌+◌, ◌-◌, ◌*◌, ◌<◌, ◌≤◌}
use native.Mathlib.Omega.{arith}
use borrow.Author.Tests.{le-leb, lt-leb, not-true, not-false}
use Rattle.lists.specs.Lists.{first, topmost}
use Rattle.lists.specs.Parts.{sector, sectors}
use Rattle.volume.specs.Volume.{sat}
use Rattle.volume.specs.Sat.{is_free}
use Rattle.volume.specs.declared.locate.Layout.{Layout}
use Rattle.compaction.specs.declared.Ending.{Ending}
use Rattle.compaction.specs.declared.Ending.TheVariants.{Settled, QuotaUsed, SegmentNeeded}
use Rattle.compaction.specs.Compaction.{closing, holds_data, highest_data, lowest_free, closed_up, stepped, overfull, compacted}
use Rattle.compaction.specs.Code.Holders.{is_held}
use Rattle.compaction.specs.Code.Going.{Tabled, NextStep, Advanced, Going, after_many}
use Rattle.lists.proofs.TopmostFound.{topmost_same}
use Rattle.compaction.proofs.Quota.{compacted_again, compacted_none, compacted_stuck, compacted_step, after_none, after_more}
use Rattle.compaction.proofs.holders.HolderTable.{held_is}
use Rattle.compaction.proofs.ClosedUp.{step_facts}
use Rattle.compaction.proofs.Stepped.{stepped_highest, stepped_lowest}

pub Going-start : (img : List ℕ) (p : Layout) (who : List ℕ) (quota : ℕ) → Tabled img p who → Going img quota p img who p.t 0 0
unfolding highest_data lowest_free
Going-start img p who quota T =
    let z : p.t - 0 ≡ sectors img = omega (arith, T.located.is_t) in
    let y : quota - 0 ≡ quota = omega arith in
    record {
      tabled = T;
      below = omega arith;
      highest = rw T.located.is_t;
      lowest = ap (first (is_free (sat img)) 0) z;
      few = omega arith;
      left = after_none _ ∙ ap (λ (n : ℕ). compacted n img) y;
    }

-- no more moved, by any ending
ends : (n : ℕ) (why : Ending) (img : List ℕ) → after_many n (closing 0 why img) ≡ closing n why img
unfolding after_many
ends n why img = let z : 0 + n ≡ n = omega arith in rw z

module _ (v : List ℕ) (quota : ℕ) (p : Layout) (img who : List ℕ) (hi lo n : ℕ) (G : Going v quota p img who hi lo n) where
  pub found_highest : (none h : ℕ) → none ≡ 8 * p.dirs → h ≡ topmost (is_held who none) hi → h ≡ highest_data img
  found_highest none h e q =
      q ∙ topmost_same (is_held who none) (holds_data img) hi (λ x l.
      held_is who none x img G.tabled.table (omega (arith, e, G.tabled.located.is_dirs)) (omega (arith, G.below, G.tabled.located.high))) ∙ G.highest

  pub found_lowest : (b : List ℕ) (l : ℕ) → b ≡ sector p.sat img → l ≡ first (is_free b) lo (p.t - lo) → l ≡ lowest_free img
  unfolding sat
  found_lowest b l e q = q ∙ rw (e, G.tabled.located.is_sat) G.lowest

  -- the sectors that they found
  module _ (h l : ℕ) (eh : h ≡ highest_data img) (el : l ≡ lowest_free img) where
    pub going_settled : h ≤ l → closing n Settled img ≡ compacted quota v
    unfolding closed_up
    going_settled m =
        let c : closed_up img ≡ true = rw (← eh, ← el) (le-leb h l m) in
        sym (ap (after_many n) (compacted_again (quota - n) img c) ∙ ends n Settled img) ∙ G.left

    module _ (m : l < h) where
      is_open : closed_up img ≡ false
      unfolding closed_up
      is_open = rw (← eh, ← el) (lt-leb h l m)

      pub going_used : quota ≤ n → closing n QuotaUsed img ≡ compacted quota v
      going_used a =
          let z : quota - n ≡ 0 = omega arith in
          sym (ap (λ (k : ℕ). after_many n (compacted k img)) z ∙ ap (after_many n) (compacted_none img is_open) ∙ ends n QuotaUsed img) ∙ G.left

      pub going_next : NextStep img p who h l
      going_next = record { tabled = G.tabled; not_closed = is_open; is_highest = eh; is_lowest = el }

      -- the step, made or not
      module _ (a : n < quota) (r : Bool) (img' who' : List ℕ) (A : Advanced img p r img' who') where
        pub going_stuck : r ≡ false → closing n SegmentNeeded img' ≡ compacted quota v
        going_stuck f =
            let o : overfull img ≡ true = not-false _ (sym A.answer ∙ f) in
            let i : img' ≡ img = rw f at A.image in
            rw i (sym (ap (after_many n) (compacted_stuck img is_open (quota - n) (omega arith) o) ∙ ends n SegmentNeeded img) ∙ G.left)

        pub Going-on : r ≡ true → Going v quota p img' who' h l (n + 1)
        Going-on t =
            let o : overfull img ≡ false = not-true _ (sym A.answer ∙ t) in
            let i : img' ≡ stepped img = rw t at A.image in
            let s : quota - n ≡ suc (quota - (n + 1)) = omega arith in
            rw i (record {
              tabled = A.tabled t;
              below = omega (arith, eh, (step_facts img is_open).highest_in, G.tabled.located.is_t);
              highest = rw eh (sym (stepped_highest img G.tabled.is_sound is_open o));
              lowest = rw (el, G.tabled.located.is_t) (sym (stepped_lowest img G.tabled.is_sound is_open o));
              few = omega arith;
              left =
                  sym (after_more n _) ∙ ap (after_many n) (sym (compacted_step img is_open (quota - (n + 1)) o)) ∙ ap (λ (k : ℕ). after_many n (compacted k img)) (sym s)
                  ∙ G.left;
            })
