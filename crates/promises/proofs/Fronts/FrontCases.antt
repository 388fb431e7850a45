-- A request through the front: refused by one of the front's rules, or carried out; and what its buffer leaves in the areas.
use Rattle.std.specs.Prelude.{if◌then◌else◌}
use mathlib.Core.Bool.{Bool, true, false, not, true≢false}
use mathlib.Core.List.{List, []}
use mathlib.Core.Logic.{◌⊎◌, inl, inr, ⊎_elim, ◌≢◌}
use mathlib.Core.Path.{◌≡◌, refl, sym}
use native.Mathlib.Omega.{arith}
use Prim.Native.Nat.{ℕ, ◌+◌, ◌-◌, ◌<◌, ◌≤◌}
use lib.Dec.{eqb}
use lib.ListN.{length}
use borrow.Author.Tests.{eqb-true, leb-true, ltb-true, not-false}
use Rattle.lists.specs.Lists.{◌and◌, ◌or◌}
use Rattle.lists.specs.Parts.{put}
use Rattle.lists.proofs.Puts.{put_none, put-part}
use Rattle.lists.proofs.LentParts.{length-part}
use Rattle.lists.proofs.Tests.{and_left, and_right}
use Rattle.work.specs.declared.Refusal.{Refusal}
use Rattle.work.specs.declared.Refusal.TheVariants.{UnknownType, BadLun, WrongCode, NoRight, InUse, NoFile, BadRequest, BadLength, PastEnd, OutOfRange, OtherLength, Exists}
use Rattle.work.specs.declared.Refusal.TheVariants.{NoRoom}
use Rattle.work.specs.declared.Refusal.TheVariants.{BadDescriptor, NoSegment, NameTaken, DirectoryFull, NotSound}
use Rattle.work.specs.Refusals.{code}
use Rattle.work.proofs.Rules.{Passes}
use Rattle.deskbytes.specs.DeskBytes.{desk_form}
use Rattle.std.specs.Prelude.{Err}
use Rattle.desk.specs.Calls.{Call, rewind, given, step}
use Rattle.front.specs.Blocks.{block_size, function_of, lun_in, start_in, end_in, is_transfer, supported}
use Rattle.front.specs.Areas.{names_shared, offset, area, inside, part_named, task_after, shared_after}
use Rattle.front.specs.Front.{Lent, front_rules, transfer_asked, asked, turned_back, carried_out, front}
use Rattle.promises.specs.Answers.{First}
use Rattle.promises.specs.Fronts.{state_of, bytes_lent}
use Rattle.promises.proofs.Passing.{refuses_or_Passes, ruled-First, ruled-Passes}

-- one or the other
pub record RefusedAtFront (caller : ℕ) (l : Lent) : Type 0 where
  pub why : Refusal
  pub place : ℕ
  pub first : First (front_rules l) place why
  pub is : front caller l ≡ turned_back (Err why) l

pub record PassedFront (caller : ℕ) (l : Lent) : Type 0 where
  pub whole_block : length l.block ≡ block_size
  pub good_form : desk_form l.desk ≡ true
  pub known_code : supported l.block ≡ true
  pub in_area : is_transfer l.block ≡ true → inside (start_in l.block) (end_in l.block) l.task l.shared ≡ true
  pub none_apply : Passes (front_rules l)
  pub is : front caller l ≡ carried_out (step (asked caller l) (state_of l)) l

both_not : (a b : Bool) → a and not b ≡ false → a ≡ true → b ≡ true
unfolding ◌and◌
both_not true true e h = refl
both_not true false e h = absurd (true≢false e)
both_not false b e h = absurd (true≢false (sym h))

passed_front : (caller : ℕ) (l : Lent) → Passes (front_rules l) → PassedFront caller l
unfolding front_rules front
passed_front caller l p = record {
  whole_block = eqb-true _ _ (not-false _ p.0);
  good_form = not-false _ p.1.0;
  known_code = not-false _ p.1.1.0;
  in_area = both_not _ _ p.1.1.1.0;
  none_apply = p;
  is = ruled-Passes _ _ (front_rules l) p;
}

pub front_cases : (caller : ℕ) (l : Lent) → (RefusedAtFront caller l) ⊎ (PassedFront caller l)
unfolding front
front_cases caller l =
    ⊎_elim
    (λ t. inl (record { why = t.0; place = t.1; first = t.2; is = ruled-First _ _ (front_rules l) t.1 t.0 t.2 }))
    (λ p. inr (passed_front caller l p))
    (refuses_or_Passes (front_rules l))

-- a refusal's number is not $00
pub code_not_0 : (r : Refusal) → code r ≢ 0
code_not_0 UnknownType e = absurd (omega (arith, e))
code_not_0 BadLun e = absurd (omega (arith, e))
code_not_0 WrongCode e = absurd (omega (arith, e))
code_not_0 NoRight e = absurd (omega (arith, e))
code_not_0 InUse e = absurd (omega (arith, e))
code_not_0 NoFile e = absurd (omega (arith, e))
code_not_0 BadRequest e = absurd (omega (arith, e))
code_not_0 BadLength e = absurd (omega (arith, e))
code_not_0 PastEnd e = absurd (omega (arith, e))
code_not_0 OutOfRange e = absurd (omega (arith, e))
code_not_0 OtherLength e = absurd (omega (arith, e))
code_not_0 Exists e = absurd (omega (arith, e))
code_not_0 NoRoom e = absurd (omega (arith, e))
code_not_0 BadDescriptor e = absurd (omega (arith, e))
code_not_0 NoSegment e = absurd (omega (arith, e))
code_not_0 NameTaken e = absurd (omega (arith, e))
code_not_0 DirectoryFull e = absurd (omega (arith, e))
code_not_0 NotSound e = absurd (omega (arith, e))

-- the buffer that a request lends: the named part, or none
one_of : (x y : Bool) (A B C : Call) (bs : List ℕ) → given A ≡ bs → given B ≡ bs → given C ≡ bs → given (if x then A else if y then B else C) ≡ bs
one_of true y A B C bs a b c = a
one_of false true A B C bs a b c = b
one_of false false A B C bs a b c = c

given_transfer : (caller : ℕ) (b bs : List ℕ) → given (transfer_asked caller b bs) ≡ bs
unfolding transfer_asked given
given_transfer caller b bs = one_of (eqb (function_of b) 0x01) (eqb (function_of b) 0x02) _ _ _ bs refl refl refl

given-rewind : (caller lun : ℕ) → given (rewind caller lun) ≡ []
unfolding given
given-rewind caller lun = refl

pub given-asked : (caller : ℕ) (l : Lent) → given (asked caller l) ≡ (if is_transfer l.block then bytes_lent l else [])
unfolding asked
given-asked caller l = go (is_transfer l.block)
  where
    go : (b : Bool) → given (if b then transfer_asked caller l.block (bytes_lent l) else rewind caller (lun_in l.block)) ≡ (if b then bytes_lent l else [])
    go true = given_transfer caller l.block (bytes_lent l)
    go false = given-rewind caller (lun_in l.block)

-- a part of the areas: where it lies
pub record Lies (a e : ℕ) (t s : List ℕ) : Type 0 where
  pub ordered : offset a ≤ offset e
  pub within : offset e < length (area (names_shared a) t s)

pub lies : (a e : ℕ) (t s : List ℕ) → inside a e t s ≡ true → Lies a e t s
unfolding inside
lies a e t s h = record { ordered = leb-true _ _ (and_right _ _ (and_left _ _ h)); within = ltb-true _ _ (and_right _ _ h) }

-- the named area and the other one, after bytes were put at an address
pub named_after : (a : ℕ) (bs t s : List ℕ) → area (names_shared a) (task_after a bs t) (shared_after a bs s) ≡ put (offset a) bs (area (names_shared a) t s)
unfolding task_after shared_after
named_after a bs t s = go (names_shared a)
  where
    go : (b : Bool) → area b (area b (put (offset a) bs t) t) (area b s (put (offset a) bs s)) ≡ put (offset a) bs (area b t s)
    go true = refl
    go false = refl

pub other_after : (a : ℕ) (bs t s : List ℕ) → area (names_shared a) (shared_after a bs s) (task_after a bs t) ≡ area (names_shared a) s t
unfolding task_after shared_after
other_after a bs t s = go (names_shared a)
  where
    go : (b : Bool) → area b (area b s (put (offset a) bs s)) (area b (put (offset a) bs t) t) ≡ area b s t
    go true = refl
    go false = refl

-- bytes that change nothing in the named area change neither
pub task_same : (a : ℕ) (bs t s : List ℕ) → put (offset a) bs (area (names_shared a) t s) ≡ area (names_shared a) t s → task_after a bs t ≡ t
unfolding task_after
task_same a bs t s e = go (names_shared a) e
  where
    go : (b : Bool) → put (offset a) bs (area b t s) ≡ area b t s → area b (put (offset a) bs t) t ≡ t
    go true h = refl
    go false h = h

pub shared_same : (a : ℕ) (bs t s : List ℕ) → put (offset a) bs (area (names_shared a) t s) ≡ area (names_shared a) t s → shared_after a bs s ≡ s
unfolding shared_after
shared_same a bs t s e = go (names_shared a) e
  where
    go : (b : Bool) → put (offset a) bs (area b t s) ≡ area b t s → area b s (put (offset a) bs s) ≡ s
    go true h = h
    go false h = refl

-- what a request lends, put back where it was, changes nothing
pub Lent-back : (caller : ℕ) (l : Lent) → PassedFront caller l
    → put (offset (start_in l.block)) (given (asked caller l)) (area (names_shared (start_in l.block)) l.task l.shared)
    ≡ area (names_shared (start_in l.block)) l.task l.shared
unfolding part_named
Lent-back caller l p = rw (given-asked caller l) (go (is_transfer l.block) refl)
  where
    A : List ℕ
    A = area (names_shared (start_in l.block)) l.task l.shared

    go : (b : Bool) → is_transfer l.block ≡ b → put (offset (start_in l.block)) (if b then bytes_lent l else []) A ≡ A
    go true e =
        let w = lies _ _ _ _ (p.in_area e) in
        put-part (offset (start_in l.block)) (offset (end_in l.block) + 1 - offset (start_in l.block)) A (omega (arith, w.ordered, w.within))
    go false e = put_none (offset (start_in l.block)) A

-- .. and it is as long as the part
pub Lent-long : (l : Lent) → inside (start_in l.block) (end_in l.block) l.task l.shared ≡ true
    → length (bytes_lent l) ≡ offset (end_in l.block) + 1 - offset (start_in l.block)
unfolding part_named
Lent-long l h =
    let w = lies _ _ _ _ h in
    length-part (offset (start_in l.block)) (offset (end_in l.block) + 1 - offset (start_in l.block)) _ (omega (arith, w.ordered, w.within))
