-- The block and the areas after a request through the front, and what an accepted one leaves.
use Rattle.std.specs.Prelude.{if◌then◌else◌}
use mathlib.Core.Bool.{Bool, true, false, true≢false}
use mathlib.Core.List.{List, [], ◌∷◌}
use mathlib.Core.Logic.{⊎_elim, ◌≢◌, ◌⊎◌, inl, inr}
use mathlib.Core.Path.{◌≡◌, refl, ap, sym, subst, ◌∙◌}
use native.Mathlib.Decide.{dec_lt}
use native.Mathlib.Omega.{arith}
use Prim.Native.Nat.{ℕ, ◌+◌, ◌-◌, ◌<◌, ◌≤◌}
use lib.Dec.{eqb}
use lib.ListN.{length}
use borrow.Author.Tests.{eq-eqb, ne_eqb}
use Rattle.lists.specs.Parts.{byte, long, bytes4, part, put}
use Rattle.lists.proofs.Puts.{length-put, part-put_same, put_none}
use Rattle.work.specs.Transfers.{moving, writing, updating}
use Rattle.desk.specs.Answers.{Answer}
use Rattle.std.specs.Prelude.{Err}
use Rattle.desk.specs.Desk.{State}
use Rattle.desk.specs.Answers.{Outcome, status, moved, accepts}
use Rattle.desk.specs.Calls.{Call, rewind, write, update, given, done, quietly, transferred, step}
use Rattle.front.specs.Blocks.{block_size, function_of, lun_in, start_in, end_in, is_transfer, block_after}
use Rattle.front.specs.Areas.{names_shared, offset, area, part_named, task_after, shared_after}
use Rattle.front.specs.Front.{packed_desk, desk_after, Lent, Ended, transfer_asked, asked, turned_back, carried_out, front}
use Rattle.promises.specs.Fronts.{state_of, bytes_lent, BlockAnswered, OutsideKept, OnlyThePart, OnlyReadsFill, CarriedOut, AcceptedThrough}
use Rattle.promises.proofs.Fronts.FrontAnswers.{refused_number, carried_number, Which, was_done, was_refused, which}
use Rattle.promises.proofs.Fronts.FrontCases.{PassedFront, front_cases, code_not_0, given-asked, lies, named_after, other_after, Lent-long, Lent-back, task_same}
use Rattle.promises.proofs.Fronts.FrontCases.{shared_same}
use Rattle.promises.proofs.Effects.Buffers.{buffer_stays, buffer_long}
use Rattle.lists.proofs.PutBytes.{byte-put_outside, byte-put_inside, long-put}

-- whatever becomes of a request, some answer is in its block
pub record BlockTold (e : Ended) (b : List ℕ) : Type 0 where
  pub answer : Answer
  pub number_is : e.returned ≡ status answer
  pub block_is : e.left.block ≡ block_after answer b

refused_block : (a : Answer) (l : Lent) → BlockTold (turned_back a l) l.block
unfolding turned_back
refused_block a l = record { answer = a; number_is = refl; block_is = refl }

carried_block : (o : Outcome) (l : Lent) → BlockTold (carried_out o l) l.block
unfolding carried_out
carried_block o l = record { answer = o.answer; number_is = refl; block_is = refl }

block_told : (caller : ℕ) (l : Lent) → BlockTold (front caller l) l.block
block_told caller l =
    ⊎_elim
    (λ r. subst (λ (e : Ended). BlockTold e l.block) (sym r.is) (refused_block (Err r.why) l))
    (λ p. subst (λ (e : Ended). BlockTold e l.block) (sym p.is) (carried_block _ l))
    (front_cases caller l)

module _ (a : Answer) (b : List ℕ) (n : length b ≡ block_size) where
  first_put : List ℕ
  first_put = put 4 (status a ∷ []) b

  block_after_lem : block_after a b ≡ put 0x14 (bytes4 (moved a)) (put 4 (status a ∷ []) b)
  unfolding block_after
  block_after_lem = rw (eq-eqb (length b) block_size n)

  status_long : length (put 4 (status a ∷ []) b) ≡ block_size
  status_long = length-put 4 (status a ∷ []) b (omega arith) ∙ n

  pub block_long : length (block_after a b) ≡ length b
  block_long = ap length block_after_lem ∙ length-put 0x14 (bytes4 (moved a)) _ (omega (arith, status_long)) ∙ status_long ∙ sym n

  pub block_length : long (block_after a b) 0x14 ≡ moved a
  block_length = ap (λ (l : List ℕ). long l 0x14) block_after_lem ∙ long-put 0x14 (moved a) _ (omega (arith, status_long))

  pub block_status : byte (block_after a b) 4 ≡ status a
  block_status =
      ap (λ (l : List ℕ). byte l 4) block_after_lem
      ∙ byte-put_outside 0x14 (bytes4 (moved a)) _ (omega (arith, status_long)) 4 (inl (omega arith))
      ∙ byte-put_inside 4 (status a ∷ []) b (omega arith) 0 (omega arith)

  pub block_other : (j : ℕ) → j ≢ 4 → (j < 0x14) ⊎ (0x18 ≤ j) → byte (block_after a b) j ≡ byte b j
  block_other j x h =
      ap (λ (l : List ℕ). byte l j) block_after_lem
      ∙ byte-put_outside 0x14 (bytes4 (moved a)) _ (omega (arith, status_long)) j h
      ∙ byte-put_outside 4 (status a ∷ []) b (omega arith) j (apart j x)
    where
      apart : (j : ℕ) → j ≢ 4 → (j < 4) ⊎ (5 ≤ j)
      apart j x = elim (dec_lt j 4) [ yes h ↦ inl h | no h ↦ inr (omega arith) ]

refused_moves_none : (a : Answer) → status a ≢ 0 → moved a ≡ 0
refused_moves_none a n = go (which a)
  where
    go : Which a → moved a ≡ 0
    go (was_done x z) = absurd (n z)
    go (was_refused why e) = ap moved e

pub block_answered : BlockAnswered
block_answered caller l n =
    let t = block_told caller l in record {
      as_long = ap length t.block_is ∙ block_long t.answer l.block n;
      status_there = ap (λ (b : List ℕ). byte b 4) t.block_is ∙ block_status t.answer l.block n ∙ sym t.number_is;
      refused_length = λ r.
          ap (λ (b : List ℕ). long b 0x14) t.block_is ∙ block_length t.answer l.block n
          ∙ refused_moves_none t.answer (λ z. r (t.number_is ∙ z));
      others_kept = λ j x h. ap (λ (b : List ℕ). byte b j) t.block_is ∙ block_other t.answer l.block n j x h;
    }

-- no byte
none_long : (bs : List ℕ) → length bs ≡ 0 → bs ≡ []
none_long [] e = refl
none_long (x ∷ bs) e = absurd (omega (arith, e))

-- what a write, an update and a rewind are lent stays as it is
abbrev LeavesBuffer : Call → Type 0
LeavesBuffer c = (s : State) → (step c s).buffer ≡ given c

write_leaves : (caller lun sel num : ℕ) (fmt : Bool) (bs : List ℕ) → LeavesBuffer (write caller lun sel num fmt bs)
unfolding done given transferred writing moving
write_leaves caller lun sel num fmt bs s = buffer_stays (write caller lun sel num fmt bs) s refl

update_leaves : (caller lun sel num : ℕ) (fmt : Bool) (bs : List ℕ) → LeavesBuffer (update caller lun sel num fmt bs)
unfolding done given transferred updating moving
update_leaves caller lun sel num fmt bs s = buffer_stays (update caller lun sel num fmt bs) s refl

rewind_leaves : (caller lun : ℕ) → LeavesBuffer (rewind caller lun)
unfolding done given quietly
rewind_leaves caller lun s = buffer_stays (rewind caller lun) s refl

-- .. so a request of another function than read leaves what it lent
not_first : (x y : Bool) (A B C : Call) → x ≡ false → LeavesBuffer B → LeavesBuffer C → LeavesBuffer (if x then A else if y then B else C)
not_first true y A B C e b c = absurd (true≢false e)
not_first false true A B C e b c = b
not_first false false A B C e b c = c

asked_leaves : (caller : ℕ) (l : Lent) → function_of l.block ≢ 0x01 → LeavesBuffer (asked caller l)
unfolding asked transfer_asked
asked_leaves caller l n = go (is_transfer l.block)
  where
    go : (b : Bool) → LeavesBuffer (if b then transfer_asked caller l.block (bytes_lent l) else rewind caller (lun_in l.block))
    go true =
        not_first (eqb (function_of l.block) 0x01) (eqb (function_of l.block) 0x02) _ _ _ (ne_eqb _ _ n) (write_leaves _ _ _ _ _ _) (update_leaves _ _ _ _ _ _)
    go false = rewind_leaves caller (lun_in l.block)

abbrev from_address : Lent → ℕ
from_address l = start_in l.block

abbrev to_address : Lent → ℕ
to_address l = end_in l.block

abbrev area_named : Lent → List ℕ
area_named l = area (names_shared (from_address l)) l.task l.shared

abbrev buffer_after : ℕ → Lent → List ℕ
buffer_after caller l = (step (asked caller l) (state_of l)).buffer

-- the areas of a request that passed the front: the named one has the call's buffer in it
module _ (caller : ℕ) (l : Lent) (p : PassedFront caller l) where
  transfer_long : is_transfer l.block ≡ true → length (buffer_after caller l) ≡ offset (to_address l) + 1 - offset (from_address l)
  transfer_long h =
      buffer_long (asked caller l) (state_of l) ∙ ap length (given-asked caller l) ∙ ap (λ (b : Bool). length (if b then bytes_lent l else [])) h
      ∙ Lent-long l (p.in_area h)

  transfer_fits : is_transfer l.block ≡ true → offset (from_address l) + length (buffer_after caller l) ≤ length (area_named l)
  transfer_fits h =
      let w = lies (from_address l) (to_address l) l.task l.shared (p.in_area h) in
      omega (arith, w.ordered, w.within, transfer_long h)

  none_lent : is_transfer l.block ≡ false → (buffer_after caller l) ≡ []
  none_lent h =
      none_long (buffer_after caller l) (buffer_long (asked caller l) (state_of l) ∙ ap length (given-asked caller l) ∙ ap (λ (b : Bool). length (if b then bytes_lent l else [])) h)

  carried_outside : OutsideKept (from_address l) (to_address l) l (carried_out (step (asked caller l) (state_of l)) l).left
  unfolding carried_out
  carried_outside = record {
    other_area = other_after (from_address l) (buffer_after caller l) l.task l.shared;
    as_long = ap length (named_after (from_address l) (buffer_after caller l) l.task l.shared) ∙ long (is_transfer l.block) refl;
    outside = λ j h. ap (λ (x : List ℕ). byte x j) (named_after (from_address l) (buffer_after caller l) l.task l.shared) ∙ same j h (is_transfer l.block) refl;
  }
    where
      long : (b : Bool) → is_transfer l.block ≡ b → length (put (offset (from_address l)) (buffer_after caller l) (area_named l)) ≡ length (area_named l)
      long true h = length-put (offset (from_address l)) (buffer_after caller l) (area_named l) (transfer_fits h)
      long false h = ap (λ (x : List ℕ). length (put (offset (from_address l)) x (area_named l))) (none_lent h) ∙ ap length (put_none (offset (from_address l)) (area_named l))

      same : (j : ℕ) → (j < offset (from_address l)) ⊎ (offset (to_address l) < j) → (b : Bool) → is_transfer l.block ≡ b
          → byte (put (offset (from_address l)) (buffer_after caller l) (area_named l)) j ≡ byte (area_named l) j
      same j o true h =
          let w = lies (from_address l) (to_address l) l.task l.shared (p.in_area h) in
          byte-put_outside (offset (from_address l)) (buffer_after caller l) (area_named l) (transfer_fits h) j
          (⊎_elim (λ x. inl x) (λ x. inr (omega (arith, transfer_long h, w.ordered, x))) o)
      same j o false h = ap (λ (x : List ℕ). byte (put (offset (from_address l)) x (area_named l)) j) (none_lent h)
          ∙ ap (λ (x : List ℕ). byte x j) (put_none (offset (from_address l)) (area_named l))

  carried_out_lem : accepts (step (asked caller l) (state_of l)).answer ≡ true
      → CarriedOut (asked caller l) l (step (asked caller l) (state_of l)) (carried_out (step (asked caller l) (state_of l)) l)
  unfolding carried_out desk_after part_named
  carried_out_lem h = record {
    accepted = h;
    image_is = refl;
    desk_is = ap (λ (b : Bool). if b then packed_desk (step (asked caller l) (state_of l)).desk else l.desk) h;
    length_there = block_length (step (asked caller l) (state_of l)).answer l.block p.whole_block;
    part_is = λ t.
        ap (λ (x : List ℕ). part (offset (from_address l)) (offset (to_address l) + 1 - offset (from_address l)) x)
        (named_after (from_address l) (buffer_after caller l) l.task l.shared)
        ∙ ap (λ (n : ℕ). part (offset (from_address l)) n (put (offset (from_address l)) (buffer_after caller l) (area_named l))) (sym (transfer_long t))
        ∙ part-put_same (offset (from_address l)) (buffer_after caller l) (area_named l) (transfer_fits t);
  }

-- a request that was refused leaves both areas
refused_outside : (r : Answer) (a e : ℕ) (l : Lent) → OutsideKept a e l (turned_back r l).left
unfolding turned_back
refused_outside r a e l = record { other_area = refl; as_long = refl; outside = λ j h. refl }

pub only_the_part : OnlyThePart
only_the_part caller l =
    ⊎_elim
    (λ r. subst (λ (x : Ended). OutsideKept (start_in l.block) (end_in l.block) l x.left) (sym r.is) (refused_outside (Err r.why) _ _ l))
    (λ p. subst (λ (x : Ended). OutsideKept (start_in l.block) (end_in l.block) l x.left) (sym p.is) (carried_outside caller l p))
    (front_cases caller l)

-- only a read writes into its part
refused_areas : (r : Answer) (l : Lent) → ((turned_back r l).left.task ≡ l.task) × ((turned_back r l).left.shared ≡ l.shared)
unfolding turned_back
refused_areas r l = (refl, refl)

carried_areas : (caller : ℕ) (l : Lent) → PassedFront caller l → function_of l.block ≢ 0x01
    → ((carried_out (step (asked caller l) (state_of l)) l).left.task ≡ l.task) × ((carried_out (step (asked caller l) (state_of l)) l).left.shared ≡ l.shared)
unfolding carried_out
carried_areas caller l p n =
    let q = asked_leaves caller l n (state_of l) in (
      ap (λ (b : List ℕ). task_after (start_in l.block) b l.task) q ∙ task_same _ _ l.task l.shared (Lent-back caller l p),
      ap (λ (b : List ℕ). shared_after (start_in l.block) b l.shared) q ∙ shared_same _ _ l.task l.shared (Lent-back caller l p),
    )

pub only_reads_fill : OnlyReadsFill
only_reads_fill caller l n =
    ⊎_elim
    (λ r. subst (λ (x : Ended). (x.left.task ≡ l.task) × (x.left.shared ≡ l.shared)) (sym r.is) (refused_areas (Err r.why) l))
    (λ p. subst (λ (x : Ended). (x.left.task ≡ l.task) × (x.left.shared ≡ l.shared)) (sym p.is) (carried_areas caller l p n))
    (front_cases caller l)

pub accepted_through : AcceptedThrough
accepted_through caller l z =
    ⊎_elim
    (λ r. absurd (code_not_0 r.why (sym (refused_number (Err r.why) l) ∙ sym (ap (λ (x : Ended). x.returned) r.is) ∙ z)))
    (λ p. subst (λ (x : Ended). CarriedOut (asked caller l) l (step (asked caller l) (state_of l)) x) (sym p.is) (go p (which (step (asked caller l) (state_of l)).answer)))
    (front_cases caller l)
  where
    go : PassedFront caller l → Which (step (asked caller l) (state_of l)).answer
        → CarriedOut (asked caller l) l (step (asked caller l) (state_of l)) (carried_out (step (asked caller l) (state_of l)) l)
    go p (was_done h y) = carried_out_lem caller l p h
    go p (was_refused why y) =
        absurd (code_not_0 why (sym (ap status y) ∙ sym (carried_number _ l) ∙ sym (ap (λ (x : Ended). x.returned) p.is) ∙ z))
