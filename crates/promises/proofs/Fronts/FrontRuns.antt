-- Requests are visits, and over desk bytes that are handed on they are runs: demand 3 through the front.
use Rattle.std.specs.Prelude.{if◌then◌else◌}
use mathlib.Core.Bool.{Bool, true, false, not}
use mathlib.Core.List.{List, [], ◌∷◌, ◌++◌}
use mathlib.Core.Logic.{⊎_elim}
use mathlib.Core.Path.{◌≡◌, refl, ap, sym, subst, ◌∙◌}
use Prim.Native.Nat.{ℕ}
use lib.Dec.{eqb}
use lib.ListN.{length}
use borrow.Author.Tests.{eq-eqb, eqb-true}
use Rattle.lists.proofs.ByteLists.{Bytes-nil}
use Rattle.work.specs.declared.Refusal.{Refusal}
use Rattle.work.specs.declared.Refusal.TheVariants.{NotSound}
use Rattle.work.specs.Refusals.{Rule, ◌if◌, ruled}
use Rattle.deskbytes.specs.DeskBytes.{desk_size, desk_form}
use Rattle.std.specs.Prelude.{Err}
use Rattle.desk.specs.declared.Desk.{Desk}
use Rattle.desk.specs.Desk.{State, state, empty_desk}
use Rattle.desk.specs.Answers.{Outcome, status, accepts}
use Rattle.desk.specs.Calls.{Call, format, bring_up, rewind, rules, done, quietly, sent, step}
use Rattle.front.specs.Blocks.{function_of, lun_in, is_transfer}
use Rattle.front.specs.Front.{packed_desk, unpacked_desk, desk_after, served, served_by, serve, serve_format, serve_bring_up, Lent, lent, Ended, front_rules, transfer_asked, asked}
use Rattle.front.specs.Front.{turned_back}
use Rattle.front.specs.Front.{carried_out}
use Rattle.promises.specs.DeskBytes.{PlainDesk}
use Rattle.promises.specs.Fronts.{bytes_lent, Request, Request-iocb, formats, brings_up, calls, leaves, visit_by, through_all, visits_by, RequestsAreVisits, image_after, bytes_after}
use Rattle.promises.specs.Fronts.{calls_by}
use Rattle.promises.specs.Fronts.{calls_made, SameRun}
use Rattle.promises.specs.Fronts.{RequestsAreRuns, BytesSent, RequestBytes, FrontStaysGood}
use Rattle.promises.specs.Runs.{Visit, visit, through, next, run}
use Rattle.promises.specs.Sectors.{Bytes, AllBytes, Accepts, Good, InOrder}
use Rattle.promises.proofs.Answers.{refusal_keeps}
use Rattle.promises.proofs.Fronts.FrontAnswers.{Which, was_done, was_refused, which}
use Rattle.promises.proofs.Fronts.FrontCases.{front_cases, code_not_0}
use Rattle.promises.proofs.Fronts.FrontReadBack.{Lent-Bytes}
use Rattle.promises.proofs.Preserved.{stays_good}
use Rattle.promises.proofs.Fronts.PackedDesks.{desk_reads_back}
use Rattle.promises.proofs.Fronts.PlainDesks.{calls_make_plain}
use Rattle.promises.proofs.Passing.{accepted, ruled-First, ruled-Passes, step-First, step-Passes, refused_or_Accepted}
use Rattle.promises.proofs.Names.{id_Bytes}
use Rattle.promises.proofs.Told as accepts-told

-- A request, seen from the volume: nothing, or one visit, with the desk that its bytes stand for or, for format and bring-up, any
data Suits (c : Call) (d : Desk) (bs : List ℕ) : Type 0 where
  its_own : d ≡ unpacked_desk bs → Suits c d bs
  any_desk : (id : List ℕ) (n : ℕ) → c ≡ format id n → Suits c d bs

record Makes (r : Request) (img bs : List ℕ) (c : Call) (d : Desk) : Type 0 where
  one_visit : visit_by r img bs ≡ visit d c ∷ []
  its_image : (leaves r img bs).image ≡ (step c (state img d)).image
  its_desk : (leaves r img bs).desk ≡ desk_after (step c (state img d)).answer (step c (state img d)).desk bs
  suits : Suits c d bs

data Told (r : Request) (img bs : List ℕ) : Type 0 where
  quiet : visit_by r img bs ≡ [] → (leaves r img bs).image ≡ img → (leaves r img bs).desk ≡ bs → Told r img bs
  makes : (c : Call) (d : Desk) → Makes r img bs c d → Told r img bs
  raises : visit_by r img bs ≡ visit empty_desk bring_up ∷ [] → (leaves r img bs).image ≡ (step bring_up (state img empty_desk)).image → (leaves r img bs).desk ≡ bs → Told r img bs

block_Told : (caller : ℕ) (b t s img bs : List ℕ) → Told (Request-iocb caller b t s) img bs
unfolding leaves visit_by turned_back carried_out
block_Told caller b t s img bs =
    ⊎_elim
    (λ r. quiet (ruled-First _ _ (front_rules l) r.place r.why r.first) (ap (λ (e : Ended). e.left.image) r.is) (ap (λ (e : Ended). e.left.desk) r.is))
    (λ p.
    makes (asked caller l) (unpacked_desk bs)
    (record {
      one_visit = ruled-Passes _ _ (front_rules l) p.none_apply;
      its_image = ap (λ (e : Ended). e.left.image) p.is;
      its_desk = ap (λ (e : Ended). e.left.desk) p.is;
      suits = its_own refl;
    }))
    (front_cases caller l)
  where
    l : Lent
    l = lent b img bs t s

format_Told : (id : List ℕ) (n : ℕ) (img bs : List ℕ) → Told (formats id n) img bs
unfolding leaves visit_by serve_format ruled
format_Told id n img bs = go (eqb (length bs) desk_size) refl
  where
    go : (b : Bool) → eqb (length bs) desk_size ≡ b → Told (formats id n) img bs
    go true e = makes (format id n) empty_desk (record { one_visit = rw e; its_image = rw e; its_desk = rw e; suits = any_desk id n refl })
    go false e = quiet (rw e) (rw e) (rw e)

Call-Told : (c : Call) (img bs : List ℕ) → Told (calls c) img bs
unfolding leaves visit_by serve ruled
Call-Told c img bs = go (desk_form bs) refl
  where
    go : (b : Bool) → desk_form bs ≡ b → Told (calls c) img bs
    go true e = makes c (unpacked_desk bs) (record { one_visit = rw e; its_image = rw e; its_desk = rw e; suits = its_own refl })
    go false e = quiet (rw e) (rw e) (rw e)

bring_up_Told : (img bs : List ℕ) → Told brings_up img bs
unfolding leaves visit_by serve_bring_up
bring_up_Told img bs = raises refl refl refl

told : (r : Request) (img bs : List ℕ) → Told r img bs
told (Request-iocb caller b t s) img bs = block_Told caller b t s img bs
told (formats id n) img bs = format_Told id n img bs
told brings_up img bs = bring_up_Told img bs
told (calls c) img bs = Call-Told c img bs

-- Requests with any desk bytes are visits
visits_more : (r : Request) (img bs : List ℕ) (vs : List Visit) → Told r img bs → through (visit_by r img bs ++ vs) img ≡ through vs (leaves r img bs).image
unfolding through
visits_more r img bs vs (quiet e i d) = rw e (ap (through vs) (sym i))
visits_more r img bs vs (makes c d m) = rw m.one_visit (ap (through vs) (sym m.its_image))
visits_more r img bs vs (raises e i d) = rw e (ap (through vs) (sym i))

no_visit : (img : List ℕ) → through [] img ≡ img
unfolding through
no_visit img = refl

pub requests_are_visits : RequestsAreVisits
unfolding through_all visits_by
requests_are_visits [] img = sym (no_visit img)
requests_are_visits (q ∷ qs) img =
    requests_are_visits qs (leaves q.request img q.desk).image ∙ sym (visits_more q.request img q.desk _ (told q.request img q.desk))

-- Format, whatever desk it finds
record SameFormat (o u : Outcome) : Type 0 where
  images : o.image ≡ u.image
  desks : (bs : List ℕ) → desk_after o.answer o.desk bs ≡ desk_after u.answer u.desk bs

format_same : (id : List ℕ) (n : ℕ) (img : List ℕ) (d e : Desk) → SameFormat (step (format id n) (state img d)) (step (format id n) (state img e))
unfolding rules done quietly desk_after accepts
format_same id n img d e =
    ⊎_elim
    (λ t.
    let q = step-First (format id n) (state img e) t.place t.why t.first in record {
      images = ap (λ (o : Outcome). o.image) t.is ∙ sym (ap (λ (o : Outcome). o.image) q);
      desks = λ bs. ap (λ (o : Outcome). desk_after o.answer o.desk bs) t.is ∙ sym (ap (λ (o : Outcome). desk_after o.answer o.desk bs) q);
    })
    (λ a.
    let q = step-Passes (format id n) (state img e) a.passes in record {
      images = ap (λ (o : Outcome). o.image) a.is ∙ sym (ap (λ (o : Outcome). o.image) q);
      desks = λ bs. ap (λ (o : Outcome). desk_after o.answer o.desk bs) a.is ∙ sym (ap (λ (o : Outcome). desk_after o.answer o.desk bs) q);
    })
    (refused_or_Accepted (format id n) (state img d))

-- bring-up, whatever desk it finds, which it leaves
bring_up_same : (s : State) (d : Desk) → (step bring_up (state s.image d)).image ≡ (step bring_up s).image
unfolding rules done quietly
bring_up_same s d =
    ⊎_elim
    (λ t. ap (λ (o : Outcome). o.image) (step-First bring_up (state s.image d) t.place t.why t.first) ∙ sym (ap (λ (o : Outcome). o.image) t.is))
    (λ a. ap (λ (o : Outcome). o.image) (step-Passes bring_up (state s.image d) a.passes) ∙ sym (ap (λ (o : Outcome). o.image) a.is))
    (refused_or_Accepted bring_up s)

bring_up-desk : (s : State) → (step bring_up s).desk ≡ s.desk
unfolding done quietly
bring_up-desk s = ⊎_elim (λ t. ap (λ (o : Outcome). o.desk) t.is) (λ a. ap (λ (o : Outcome). o.desk) a.is) (refused_or_Accepted bring_up s)

refused_not : (why : Refusal) → accepts (Err why) ≡ false
unfolding accepts
refused_not why = refl

-- a call over the packed form of its desk leaves the packed form of the desk after it
packed_after : (c : Call) (s : State) → desk_after (step c s).answer (step c s).desk (packed_desk s.desk) ≡ packed_desk (step c s).desk
unfolding desk_after
packed_after c s = go (which (step c s).answer)
  where
    go : Which (step c s).answer → (if accepts (step c s).answer then packed_desk (step c s).desk else packed_desk s.desk) ≡ packed_desk (step c s).desk
    go (was_done h z) = rw h refl
    go (was_refused why e) = rw (ap accepts e ∙ refused_not why) (ap packed_desk (sym (refusal_keeps c s why e).desk_kept))

format-sent : (id : List ℕ) (n : ℕ) → Bytes id → Bytes (sent (format id n))
unfolding sent
format-sent id n h = h

bring_up-sent : Bytes (sent bring_up)
unfolding sent
bring_up-sent = Bytes-nil

-- what requests send is bytes
Visit-Bytes : (rs : List Rule) (v : Visit) → Bytes (sent v.call) → AllBytes (calls_by (ruled rs (λ why. []) (v ∷ [])))
unfolding ruled
Visit-Bytes [] v b = (b, tt)
Visit-Bytes (r ∷ rs) v b = go r.holds (Visit-Bytes rs v b)
  where
    go : (h : Bool) → AllBytes (calls_by (ruled rs (λ why. []) (v ∷ []))) → AllBytes (calls_by (if h then [] else ruled rs (λ why. []) (v ∷ [])))
    go true x = tt
    go false x = x

one_of_Bytes : (x y : Bool) (A B C : Call) → Bytes (sent A) → Bytes (sent B) → Bytes (sent C) → Bytes (sent (if x then A else if y then B else C))
one_of_Bytes true y A B C a b c = a
one_of_Bytes false true A B C a b c = b
one_of_Bytes false false A B C a b c = c

asked-Bytes : (caller : ℕ) (l : Lent) → Bytes l.task → Bytes l.shared → Bytes (sent (asked caller l))
unfolding asked transfer_asked sent
asked-Bytes caller l t s = go (is_transfer l.block)
  where
    go : (b : Bool) → Bytes (sent (if b then transfer_asked caller l.block (bytes_lent l) else rewind caller (lun_in l.block)))
    go true = one_of_Bytes (eqb (function_of l.block) 0x01) (eqb (function_of l.block) 0x02) _ _ _ Bytes-nil (Lent-Bytes l t s) (Lent-Bytes l t s)
    go false = Bytes-nil

made_bytes : (r : Request) (img bs : List ℕ) → BytesSent r → AllBytes (calls_by (visit_by r img bs))
unfolding visit_by
made_bytes (Request-iocb caller b t s) img bs h = Visit-Bytes (front_rules (lent b img bs t s)) _ (asked-Bytes caller (lent b img bs t s) h.0 h.1)
made_bytes (formats id n) img bs h = Visit-Bytes (NotSound if not (eqb (length bs) desk_size) ∷ []) _ (format-sent id n h)
made_bytes brings_up img bs h = (bring_up-sent, tt)
made_bytes (calls c) img bs h = Visit-Bytes (NotSound if not (desk_form bs) ∷ []) _ h

both_bytes : (cs ds : List Call) → AllBytes cs → AllBytes ds → AllBytes (cs ++ ds)
both_bytes [] ds x y = y
both_bytes (c ∷ cs) ds x y = (x.0, both_bytes cs ds x.1 y)

pub all_made : (rs : List Request) (img bs : List ℕ) → RequestBytes rs → AllBytes (calls_made rs img bs)
unfolding calls_made
all_made [] img bs h = tt
all_made (r ∷ rs) img bs h = both_bytes (calls_by (visit_by r img bs)) (calls_made rs (leaves r img bs).image (leaves r img bs).desk) (made_bytes r img bs h.0)
    (all_made rs (leaves r img bs).image (leaves r img bs).desk h.1)

-- a format that is not refused, through the front
pub format_accepted : (id : List ℕ) (n : ℕ) (img bs : List ℕ) → (serve_format id n img bs).returned ≡ 0x00
    → (length bs ≡ desk_size) × Accepts (format id n) (state img empty_desk)
unfolding serve_format ruled
format_accepted id n img bs z = go (eqb (length bs) desk_size) refl z (which (step (format id n) (state img empty_desk)).answer)
  where
    go : (b : Bool) → eqb (length bs) desk_size ≡ b
        → (if not b then served (status (Err NotSound)) img bs else served_by (step (format id n) (state img empty_desk)) bs).returned ≡ 0x00
        → Which (step (format id n) (state img empty_desk)).answer → (length bs ≡ desk_size) × Accepts (format id n) (state img empty_desk)
    go true e y (was_done h w) = (eqb-true _ _ e, h)
    go true e y (was_refused why w) = absurd (code_not_0 why (sym (ap status w) ∙ y))
    go false e y w = absurd (code_not_0 NotSound y)

format-image : (id : List ℕ) (n : ℕ) (img bs : List ℕ) → length bs ≡ desk_size
    → (leaves (formats id n) img bs).image ≡ (next (format id n) (state img empty_desk)).image
unfolding leaves serve_format ruled next
format-image id n img bs e = rw (eq-eqb (length bs) desk_size e)

format-desk : (id : List ℕ) (n : ℕ) (img bs : List ℕ) → length bs ≡ desk_size → Accepts (format id n) (state img empty_desk)
    → (leaves (formats id n) img bs).desk ≡ packed_desk (next (format id n) (state img empty_desk)).desk
unfolding leaves serve_format ruled next desk_after
format-desk id n img bs e h = rw (eq-eqb (length bs) desk_size e, h)

plain_next : (c : Call) (s : State) → PlainDesk (step c s).desk → PlainDesk (next c s).desk
unfolding next
plain_next c s p = p

no_request : (s : State) → PlainDesk s.desk → SameRun [] s.image (packed_desk s.desk) (run (calls_made [] s.image (packed_desk s.desk)) s)
unfolding image_after bytes_after calls_made run
no_request s p = record { images = refl; desks = refl; is_plain = p }

-- one request over the packed form of a plain desk is no call, or one
record OneRun (r : Request) (s : State) : Type 0 where
  image_is : (leaves r s.image (packed_desk s.desk)).image ≡ (run (calls_by (visit_by r s.image (packed_desk s.desk))) s).image
  desk_is : (leaves r s.image (packed_desk s.desk)).desk ≡ packed_desk (run (calls_by (visit_by r s.image (packed_desk s.desk))) s).desk
  still_plain : PlainDesk (run (calls_by (visit_by r s.image (packed_desk s.desk))) s).desk

one_run : (r : Request) (s : State) → BytesSent r → PlainDesk s.desk → Told r s.image (packed_desk s.desk) → OneRun r s
unfolding run next
one_run r s b p (quiet v i d) = record { image_is = rw v i; desk_is = rw v d; still_plain = rw v p }
one_run r s b p (raises v i d) = record {
  image_is = rw v (i ∙ bring_up_same s empty_desk);
  desk_is = rw v (d ∙ ap packed_desk (sym (bring_up-desk s)));
  still_plain = rw (v, bring_up-desk s) p;
}
one_run r s b p (makes c d m) = record {
  image_is = rw m.one_visit (m.its_image ∙ images m.suits);
  desk_is = rw m.one_visit (m.its_desk ∙ desks m.suits ∙ packed_after c s);
  still_plain = rw m.one_visit (calls_make_plain.each_call c s sent-bytes p);
}
  where
    sent-bytes : Bytes (sent c)
    sent-bytes = (rw m.one_visit at (made_bytes r s.image (packed_desk s.desk) b)).0

    same-state : d ≡ unpacked_desk (packed_desk s.desk) → state s.image d ≡ s
    same-state e = ap (state s.image) (e ∙ (desk_reads_back s.desk p).as_itself)

    images : Suits c d (packed_desk s.desk) → (step c (state s.image d)).image ≡ (step c s).image
    images (its_own e) = ap (λ (u : State). (step c u).image) (same-state e)
    images (any_desk id n e) = rw e (format_same id n s.image d s.desk).images

    desks : Suits c d (packed_desk s.desk)
        → desk_after (step c (state s.image d)).answer (step c (state s.image d)).desk (packed_desk s.desk)
        ≡ desk_after (step c s).answer (step c s).desk (packed_desk s.desk)
    desks (its_own e) = ap (λ (u : State). desk_after (step c u).answer (step c u).desk (packed_desk s.desk)) (same-state e)
    desks (any_desk id n e) = rw e ((format_same id n s.image d s.desk).desks (packed_desk s.desk))

run_more : (cs ds : List Call) (s : State) → run (cs ++ ds) s ≡ run ds (run cs s)
unfolding run
run_more [] ds s = refl
run_more (c ∷ cs) ds s = run_more cs ds (next c s)

-- the rest of the requests, from what the first one leaves
the_rest : (rs : List Request) (img bs : List ℕ) (u : State) → img ≡ u.image → bs ≡ packed_desk u.desk
    → SameRun rs u.image (packed_desk u.desk) (run (calls_made rs u.image (packed_desk u.desk)) u) → SameRun rs img bs (run (calls_made rs img bs) u)
the_rest rs img bs u ei eb h =
    subst (λ (x : List ℕ). SameRun rs x bs (run (calls_made rs x bs) u)) (sym ei)
    (subst (λ (x : List ℕ). SameRun rs u.image x (run (calls_made rs u.image x) u)) (sym eb) h)

one_more : (r : Request) (rs : List Request) (img bs : List ℕ) (u : State) → SameRun rs (leaves r img bs).image (leaves r img bs).desk u → SameRun (r ∷ rs) img bs u
unfolding image_after bytes_after
one_more r rs img bs u h = record { images = h.images; desks = h.desks; is_plain = h.is_plain }

pub requests_are_runs : RequestsAreRuns
unfolding calls_made
requests_are_runs [] s p b = no_request s p
requests_are_runs (r ∷ rs) s p b =
    let o = one_run r s b.0 p (told r s.image (packed_desk s.desk)) in
    let cs : List Call = calls_by (visit_by r s.image (packed_desk s.desk)) in
    subst (SameRun (r ∷ rs) s.image (packed_desk s.desk)) (sym (run_more cs _ s))
    (one_more r rs s.image (packed_desk s.desk) _
    (the_rest rs _ _ (run cs s) o.image_is o.desk_is (requests_are_runs rs (run cs s) o.still_plain b.1)))

-- Demand 3: a format that is accepted, and then requests
pub formatted_run : (id : List ℕ) (n : ℕ) (img bs : List ℕ) → length bs ≡ desk_size → Accepts (format id n) (state img empty_desk) → (rs : List Request) → RequestBytes rs
    → SameRun (formats id n ∷ rs) img bs (run (calls_made rs (leaves (formats id n) img bs).image (leaves (formats id n) img bs).desk) (next (format id n) (state img empty_desk)))
formatted_run id n img bs e h rs b =
    one_more (formats id n) rs img bs _
    (the_rest rs _ _ (next (format id n) (state img empty_desk)) (format-image id n img bs e) (format-desk id n img bs e h)
    (requests_are_runs rs (next (format id n) (state img empty_desk)) format-plain b))
  where
    id-sent : Bytes (sent (format id n))
    id-sent = format-sent id n (id_Bytes id (accepts-told.format_told id n _ (accepted (format id n) _ h)).good_id)

    format-plain : PlainDesk (next (format id n) (state img empty_desk)).desk
    format-plain = plain_next (format id n) (state img empty_desk) (calls_make_plain.each_call (format id n) (state img empty_desk) id-sent calls_make_plain.empty_is_plain)

pub front_stays_good : FrontStaysGood
front_stays_good id n img bs z rs b =
    let f = format_accepted id n img bs z in
    let r = formatted_run id n img bs f.0 f.1 rs b in
    let g = stays_good (state img empty_desk) id n f.1 _ (all_made rs (leaves (formats id n) img bs).image (leaves (formats id n) img bs).desk b) in (
      subst Good (λ i. state (sym r.images i) (sym (ap unpacked_desk r.desks ∙ (desk_reads_back _ r.is_plain).as_itself) i)) g.0,
      subst InOrder (sym r.images) g.1,
    )
