-- A request block, case by case: what its answer, image, desk bytes and areas are by the tests that led there.
use Rattle.std.specs.Prelude.{if◌then◌else◌}
use mathlib.Core.Bool.{Bool, true, false, not}
use mathlib.Core.List.{List, [], ◌∷◌}
use mathlib.Core.Path.{◌≡◌, refl, ap, sym, subst, ◌∙◌}
use Prim.Native.Nat.{ℕ}
use lib.ListN.{length}
use borrow.Author.Tests.{eq-eqb, ne_eqb}
use Rattle.lists.specs.Lists.{◌and◌, ◌or◌}
use Rattle.lists.specs.Parts.{put}
use Rattle.lists.proofs.Puts.{put_none}
use Rattle.work.specs.declared.Refusal.TheVariants.{NotSound, BadRequest, BadLength}
use Rattle.work.specs.Refusals.{◌if◌, ruled}
use Rattle.deskbytes.specs.DeskBytes.{desk_form}
use Rattle.desk.specs.Answers.{Answer}
use Rattle.std.specs.Prelude.{Err}
use Rattle.desk.specs.declared.Desk.{Desk}
use Rattle.desk.specs.declared.Reply.{Reply}
use Rattle.desk.specs.Desk.{state}
use Rattle.desk.specs.Answers.{Outcome, outcome, status}
use Rattle.desk.specs.Calls.{Call, rewind, step}
use Rattle.front.specs.declared.areas.Span.{Span}
use Rattle.front.specs.declared.requests.Order.{Order}
use Rattle.front.specs.Blocks.{block_size, lun_in, start_in, end_in, is_transfer, is_rewind, supported, block_after}
use Rattle.front.specs.Areas.{names_shared, offset, area, inside, part_named, task_after, shared_after}
use Rattle.front.specs.Front.{unpacked_desk, desk_after, transfer_asked, asked, front_rules, lent, Ended, ended, turned_back, carried_out, front}
use Rattle.front.specs.Code.Orders.{order_of, transfer_call}
use Rattle.front.specs.Code.Passed.{FillsArea, Passed, passed, passed_by, transfer_left, rewind_left, request_left}
use Rattle.front.specs.Code.Spans.{span_of, part_of}
use Rattle.front.proofs.TransferCalls.{order_asked}

-- a reply and the areas after it, as a call leaves them
fills_passed : (r : Reply) (o : Outcome) (x e : ℕ) (img bs t s bs' t' s' : List ℕ) (a : Answer) → FillsArea r o img (span_of x e) t s t' s' → a ≡ r.answer
    → bs' ≡ desk_after r.answer r.desk bs → passed a img bs' t' s' ≡ passed_by o x bs t s
unfolding passed_by task_after shared_after
fills_passed r o x e img bs t s bs' t' s' a f ea eb i =
    passed ((ea ∙ f.its_answer) i) (f.image_kept i) ((eb ∙ (λ j. desk_after (f.its_answer j) (f.its_desk j) bs)) i) (f.its_task i) (f.its_shared i)

-- no buffer is put back: a rewind leaves both areas
task_none : (b : Bool) (i : ℕ) (t : List ℕ) → t ≡ area b (put i [] t) t
task_none true i t = refl
task_none false i t = sym (put_none i t)

shared_none : (b : Bool) (i : ℕ) (s : List ℕ) → s ≡ area b s (put i [] s)
shared_none true i s = sym (put_none i s)
shared_none false i s = refl

module _ (caller : ℕ) (b img bs t s : List ℕ) where
  pub transfer_refused : inside (start_in b) (end_in b) t s ≡ false → passed (Err BadLength) img bs t s ≡ transfer_left caller b img bs t s
  unfolding transfer_left ruled
  transfer_refused e = rw e

  pub transfer_carried : (d : Desk) (o : Order) (p : Span) (r : Reply) (a : Answer) (img' bs' t' s' : List ℕ)
      → inside (start_in b) (end_in b) t s ≡ true → d ≡ unpacked_desk bs → o ≡ order_of b → p ≡ span_of (start_in b) (end_in b)
      → FillsArea r (step (transfer_call caller o (part_of p (area p.shared t s))) (state img d)) img' p t s t' s' → a ≡ r.answer
      → bs' ≡ desk_after r.answer r.desk bs → passed a img' bs' t' s' ≡ transfer_left caller b img bs t s
  unfolding transfer_left ruled part_named
  transfer_carried d o p r a img' bs' t' s' e ed eo ep g ea eb =
      rw e
      (fills_passed r _ (start_in b) (end_in b) img' bs t s bs' t' s' a
      (as-asked d o p ed eo ep g) ea eb)
    where
      as-asked : (d : Desk) (o : Order) (p : Span) → d ≡ unpacked_desk bs → o ≡ order_of b → p ≡ span_of (start_in b) (end_in b)
          → FillsArea r (step (transfer_call caller o (part_of p (area p.shared t s))) (state img d)) img' p t s t' s'
          → FillsArea r (step (transfer_asked caller b (part_of (span_of (start_in b) (end_in b)) (area (names_shared (start_in b)) t s)))
          (state img (unpacked_desk bs))) img' (span_of (start_in b) (end_in b)) t s t' s'
      as-asked d o p ed eo ep g =
          subst (λ (q : Span). FillsArea r (step (transfer_asked caller b (part_of q (area q.shared t s))) (state img (unpacked_desk bs))) img' q t s t' s')
          ep
          (subst (λ (c : Call). FillsArea r (step c (state img (unpacked_desk bs))) img' p t s t' s') (order_asked caller b (part_of p (area p.shared t s)))
          (subst (λ (x : Order). FillsArea r (step (transfer_call caller x (part_of p (area p.shared t s))) (state img (unpacked_desk bs))) img' p t s t' s') eo
          (subst (λ (x : Desk). FillsArea r (step (transfer_call caller o (part_of p (area p.shared t s))) (state img x)) img' p t s t' s') ed g)))

  pub rewound : (l : ℕ) (d : Desk) (r : Reply) (a : Answer) (bs' : List ℕ) → l ≡ lun_in b → d ≡ unpacked_desk bs
      → outcome r.answer img r.desk [] ≡ step (rewind caller l) (state img d) → a ≡ r.answer → bs' ≡ desk_after r.answer r.desk bs
      → passed a img bs' t s ≡ rewind_left caller b img bs t s
  unfolding rewind_left passed_by task_after shared_after
  rewound l d r a bs' el ed q ea eb =
      let o : outcome r.answer img r.desk [] ≡ step (rewind caller (lun_in b)) (state img (unpacked_desk bs)) =
      q ∙ (λ i. step (rewind caller (el i)) (state img (ed i))) in
      (λ i. passed (ea i) img (eb i) (task_none (names_shared (start_in b)) (offset (start_in b)) t i) (shared_none (names_shared (start_in b)) (offset (start_in b)) s i))
      ∙ ap (λ (x : Outcome). passed_by x (start_in b) bs t s) o

  pub request_bad : desk_form bs ≡ false → passed (Err NotSound) img bs t s ≡ request_left caller b img bs t s
  unfolding request_left ruled
  request_bad e = rw e

  pub request_code : desk_form bs ≡ true → is_transfer b ≡ false → is_rewind b ≡ false → passed (Err BadRequest) img bs t s ≡ request_left caller b img bs t s
  unfolding request_left ruled supported ◌or◌
  request_code e et er = rw (e, et, er)

  pub request_transfer : (x : Passed) → desk_form bs ≡ true → is_transfer b ≡ true → x ≡ transfer_left caller b img bs t s → x ≡ request_left caller b img bs t s
  unfolding request_left ruled supported ◌or◌
  request_transfer x e et q = rw (e, et) q

  pub request_rewind : (x : Passed) → desk_form bs ≡ true → is_transfer b ≡ false → is_rewind b ≡ true → x ≡ rewind_left caller b img bs t s
      → x ≡ request_left caller b img bs t s
  unfolding request_left ruled supported ◌or◌
  request_rewind x e et er q = rw (e, et, er) q

-- what is left of a request, with its answer in the block
Ended-by : List ℕ → Passed → Ended
Ended-by b p = ended (status p.answer) (lent (block_after p.answer b) p.image p.desk p.task p.shared)

-- the front's rules one after the other, and a request's: for any four tests
same_rules : (D T R I : Bool) (o q : Outcome) (b img bs t s : List ℕ) (x : ℕ)
    → ruled (BadLength if false ∷ NotSound if not D ∷ BadRequest if not (T or R) ∷ BadLength if (T and not I) ∷ []) (λ why. turned_back (Err why) (lent b img bs t s))
    (if T then Ended-by b (passed_by o x bs t s) else Ended-by b (passed_by q x bs t s))
    ≡ Ended-by b (ruled (NotSound if not D ∷ BadRequest if not (T or R) ∷ []) (λ why. passed (Err why) img bs t s)
    (if T then ruled (BadLength if not I ∷ []) (λ why. passed (Err why) img bs t s) (passed_by o x bs t s) else passed_by q x bs t s))
unfolding ruled ◌or◌ ◌and◌ Ended-by turned_back
same_rules false T R I o q b img bs t s x = refl
same_rules true true R true o q b img bs t s x = refl
same_rules true true R false o q b img bs t s x = refl
same_rules true false true I o q b img bs t s x = refl
same_rules true false false I o q b img bs t s x = refl

chosen_step : (T : Bool) (A B : Call) (b img bs t s : List ℕ) (x : ℕ) → x ≡ start_in b
    → carried_out (step (if T then A else B) (state img (unpacked_desk bs))) (lent b img bs t s)
    ≡ (if T then Ended-by b (passed_by (step A (state img (unpacked_desk bs))) x bs t s) else Ended-by b (passed_by (step B (state img (unpacked_desk bs))) x bs t s))
unfolding carried_out Ended-by passed_by
chosen_step true A B b img bs t s x e = ap (λ (y : ℕ). Ended-by b (passed_by (step A (state img (unpacked_desk bs))) y bs t s)) (sym e)
chosen_step false A B b img bs t s x e = ap (λ (y : ℕ). Ended-by b (passed_by (step B (state img (unpacked_desk bs))) y bs t s)) (sym e)

module _ (caller : ℕ) (b img bs t s : List ℕ) where
  pub front_short : (length b ≡ block_size → ⊥) → ended (status (Err BadLength)) (lent b img bs t s) ≡ front caller (lent b img bs t s)
  unfolding front front_rules ruled turned_back block_after
  front_short n = rw (ne_eqb (length b) block_size n)

  whole : length b ≡ block_size → front caller (lent b img bs t s) ≡ Ended-by b (request_left caller b img bs t s)
  unfolding front front_rules asked supported request_left transfer_left rewind_left
  whole n =
      rw (eq-eqb (length b) block_size n)
      (ap
      (λ (x : Ended). ruled
      (BadLength if false ∷ NotSound if not (desk_form bs) ∷ BadRequest if not (is_transfer b or is_rewind b) ∷ BadLength if (is_transfer b and not (inside (start_in b) (end_in b) t s))
      ∷ [])
      (λ why. turned_back (Err why) (lent b img bs t s)) x)
      (chosen_step (is_transfer b) _ _ b img bs t s (start_in b) refl)
      ∙ same_rules (desk_form bs) (is_transfer b) (is_rewind b) (inside (start_in b) (end_in b) t s) _ _ b img bs t s (start_in b))

  pub front_whole : (n : ℕ) (a : Answer) (b' img' bs' t' s' : List ℕ) → length b ≡ block_size → passed a img' bs' t' s' ≡ request_left caller b img bs t s
      → n ≡ status a → b' ≡ block_after a b → ended n (lent b' img' bs' t' s') ≡ front caller (lent b img bs t s)
  unfolding Ended-by
  front_whole n a b' img' bs' t' s' e q en eb =
      (λ i. ended (en i) (lent (eb i) img' bs' t' s')) ∙ ap (Ended-by b) q ∙ sym (whole e)
