-- One call: who holds a LUN after it held it before, or was given it by an accepted assign.
use mathlib.Core.Bool.{Bool, true, false, true≢false}
use mathlib.Core.List.{List, [], ◌∷◌}
use mathlib.Core.Logic.{◌⊎◌, inl, inr, ⊎_elim}
use mathlib.Core.Path.{◌≡◌, refl, ap, sym, subst, ◌∙◌}
use Prim.Native.Nat.{ℕ, zero, suc, ◌<◌, ◌≤◌}
use native.Mathlib.Decide.{ℕ_discrete, dec_lt}
use native.Mathlib.Omega.{arith}
use lib.ListN.{length, get_or, set, get_or-eq_default}
use borrow.Author.Tests.{eqb-true, eq-eqb, ne_eqb, not-true}
use Rattle.numbers.specs.Numbers.{lun_count}
use Rattle.lists.proofs.Tests.{both_true, is_false}
use Rattle.lists.proofs.Lists.{all_at, same-true}
use Rattle.lists.proofs.IndexFound.{none_all}
use Rattle.volume.specs.Directory.{entry_at, described, named, SameButCount}
use Rattle.volume.proofs.EntryCounted.{alike_refl, alike_entry}
use Rattle.files.proofs.slot.UsedSlots.{used_slot}
use Rattle.luns.specs.declared.Lun.{Lun}
use Rattle.luns.specs.declared.Place.{Place}
use Rattle.luns.specs.declared.Place.TheVariants.{Fresh}
use Rattle.luns.specs.Luns.{free_lun, moved_to, is_held, holds_slot}
use Rattle.luns.proofs.Fitting.{Fitting, fitting}
use Rattle.work.specs.Volumes.{slot_of}
use Rattle.desk.specs.declared.Desk.{Desk}
use Rattle.desk.specs.Desk.{State, state, empty_desk, lun_at, put_lun, file_of}
use Rattle.desk.specs.Answers.{accepts}
use Rattle.desk.specs.Calls.{Touch-units, Call, format, check, bring_up, compact, allocate, assign, close, rewind, delete, read, write, update, touch, done, quietly, checked}
use Rattle.desk.specs.Calls.{closed_up_to, transferred, after}
use Rattle.desk.specs.Calls.{new_lun, seat_of, step}
use Rattle.desk.proofs.DeskFitting.{lun_fits_lem}
use Rattle.promises.specs.Runs.{next}
use Rattle.promises.specs.Touches.{changes}
use Rattle.promises.specs.Sectors.{Good, File}
use Rattle.promises.specs.Contents.{slot_held}
use Rattle.promises.proofs.Passing.{Accepted, refused_or_Accepted, next_refused, next-Accepted, carried_to, accepts_it}
use Rattle.promises.proofs.Told.{assign_told, delete_told}
use Rattle.promises.proofs.Held.{entry_of}
use Rattle.moves.proofs.Rearranged.{entry_same}
use Rattle.compaction.proofs.StepsRearrange.{compacted-Rearranged}
use Rattle.promises.proofs.OneLun.{empty_lun}
use Rattle.promises.proofs.NamedFile.{file_named}
use Rattle.promises.proofs.Preserved.{other_files_kept}
use Rattle.promises.proofs.Effects.BroughtUp.{up_stays}
use Rattle.promises.proofs.Writing.{accepted_write}
use Rattle.promises.proofs.Updating.{accepted_update}

-- From s to t the LUN is held by the same user on the same file, with the same code
pub record SameSeat (s t : State) (lun : ℕ) : Type 0 where
  pub was_held : (lun_at s.desk lun).held ≡ true
  pub same_user : (lun_at t.desk lun).user ≡ (lun_at s.desk lun).user
  pub same_code : (lun_at t.desk lun).offered ≡ (lun_at s.desk lun).offered
  pub same_file : SameButCount (entry_of s lun) (entry_of t lun)

pub same_seat : (s : State) (lun : ℕ) → (lun_at s.desk lun).held ≡ true → SameSeat s s lun
same_seat s lun h = record { was_held = h; same_user = refl; same_code = refl; same_file = alike_refl (entry_of s lun) }

-- .. or an accepted assign gave it to its user, for the file of that descriptor and with that code
pub record NewSeat (c : Call) (s t : State) (lun : ℕ) : Type 0 where
  pub mode : ℕ
  pub end : Bool
  pub is_assign : c ≡ assign (lun_at t.desk lun).user lun (described (entry_of t lun)) mode end (lun_at t.desk lun).offered
  pub is_accepted : accepts (step c s).answer ≡ true

-- a LUN that is put: it is what was put, or the one that was there
put_or_same : (us : List Lun) (k j : ℕ) (u : Lun) → (get_or (set us k u) j free_lun ≡ get_or us j free_lun) ⊎ ((j ≡ k) × (get_or (set us k u) j free_lun ≡ u))
put_or_same [] k j u = inl refl
put_or_same (x ∷ us) zero zero u = inr (refl, refl)
put_or_same (x ∷ us) zero (suc j) u = inl refl
put_or_same (x ∷ us) (suc k) zero u = inl refl
put_or_same (x ∷ us) (suc k) (suc j) u = ⊎_elim (λ e. inl e) (λ t. inr (ap suc t.0, t.1)) (put_or_same us k j u)

Lun-put : (d : Desk) (k j : ℕ) (u : Lun) → (lun_at (put_lun d k u) j ≡ lun_at d j) ⊎ ((j ≡ k) × (lun_at (put_lun d k u) j ≡ u))
unfolding lun_at put_lun
Lun-put d k j u = put_or_same d.luns k j u

-- the same LUN, but for its place
Alike : Desk → Desk → ℕ → Type 0
Alike d d' j = (p : Place) × (lun_at d' j ≡ moved_to p (lun_at d j))

alike : (d d' : Desk) (j : ℕ) → lun_at d' j ≡ lun_at d j → Alike d d' j
unfolding Alike moved_to
alike d d' j e = ((lun_at d j).place, e)

Alike-moved : (d : Desk) (k j : ℕ) (p : Place) → Alike d (put_lun d k (moved_to p (lun_at d k))) j
unfolding Alike
Alike-moved d k j p =
    ⊎_elim (λ e. unfold Alike in alike d _ j e) (λ t. (p, t.1 ∙ ap (λ (i : ℕ). moved_to p (lun_at d i)) (sym t.0))) (Lun-put d k j (moved_to p (lun_at d k)))

-- such a LUN, on an image in which its file has the same entry but for the count
kept_seat : (s : State) (img : List ℕ) (d : Desk) (j : ℕ) → Alike s.desk d j → (lun_at d j).held ≡ true
    → ((lun_at s.desk j).held ≡ true → SameButCount (entry_of s j) (entry_at img (slot_held s j))) → SameSeat s (state img d) j
unfolding Alike moved_to
kept_seat s img d j (p, e) h f =
    let was : (lun_at s.desk j).held ≡ true = sym (ap (λ (u : Lun). u.held) e) ∙ h in
    record {
      was_held = was;
      same_user = ap (λ (u : Lun). u.user) e;
      same_code = ap (λ (u : Lun). u.offered) e;
      same_file = rw (ap (λ (u : Lun). u.slot) e) (f was);
    }

-- a free LUN is not held; an empty desk has no other, and past the sixteenth there is none that is held
free_lun_lem : free_lun.held ≡ false
unfolding free_lun
free_lun_lem = refl

pub empty_free : (j : ℕ) → (lun_at empty_desk j).held ≡ false
empty_free j = ap (λ (u : Lun). u.held) (empty_lun j) ∙ free_lun_lem

held_low : (d : Desk) (j : ℕ) → length d.luns ≡ lun_count → (lun_at d j).held ≡ true → j < lun_count
unfolding lun_at free_lun
held_low d j l h = elim (dec_lt j lun_count) [
  | yes low ↦ low
  | no far ↦
      let past : length d.luns ≤ j = omega arith in
      absurd (true≢false (sym h ∙ ap (λ (u : Lun). u.held) (get_or-eq_default d.luns free_lun past)))
]

module _ (s : State) (g : Good s) (j : ℕ) (h : (lun_at s.desk j).held ≡ true) where
  fits_of : Fitting s.image s.desk.luns
  fits_of = fitting s.image s.desk.luns g.is_fitting

  low : j < lun_count
  low = held_low s.desk j fits_of.sixteen h

  its_File : File s.image (slot_held s j)
  its_File =
      let o = lun_fits_lem s.image s.desk j low h fits_of in
      record { slot = used_slot s.image (slot_held s j) o.used; used = o.used }

  -- a call that does not touch the file leaves its entry; a transfer to the file does, too
  untouched : (c : Call) → changes (touch c s) (slot_held s j) ≡ false → SameButCount (entry_of s j) (entry_at (step c s).image (slot_held s j))
  untouched c t = alike_entry _ _ (other_files_kept s g.volume.is_bytes c (slot_held s j) its_File t).entry_same

  transferred_to : (c : Call) (lun i n : ℕ) → touch c s ≡ Touch-units (slot_held s lun) i n → SameButCount (entry_of s lun) (entry_at (step c s).image (slot_held s lun))
      → SameButCount (entry_of s j) (entry_at (step c s).image (slot_held s j))
  unfolding changes
  transferred_to c lun i n t e = elim (ℕ_discrete (slot_held s j) (slot_held s lun)) [
    | yes q ↦ subst (λ (k : ℕ). SameButCount (entry_at s.image k) (entry_at (step c s).image k)) (sym q) e
    | no far ↦ untouched c (rw t (ne_eqb _ _ (λ q. far (sym q))))
  ]

  -- delete is refused for a file that is held
  undeleted : (caller : ℕ) (desc : List ℕ) → Accepted (delete caller desc) s → changes (touch (delete caller desc) s) (slot_held s j) ≡ false
  unfolding touch changes holds_slot is_held lun_at
  undeleted caller desc a =
      is_false _ (λ q.
      let k : ℕ = slot_of s.image desc in
      let none = all_at _ s.desk.luns j free_lun (none_all (holds_slot k) s.desk.luns (delete_told caller desc s a).not_held) (omega (arith, low, fits_of.sixteen)) in
      true≢false (sym (both_true _ _ h (eq-eqb (slot_held s j) k (sym (eqb-true k (slot_held s j) q)))) ∙ not-true _ none))

-- One accepted call: each LUN that is held after it was held before it by the same user, or is the one that it assigned
module _ (s : State) (g : Good s) (j : ℕ) where
  -- the image is as the step left it
  left_as : (c : Call) → Accepted c s → ((lun_at s.desk j).held ≡ true → SameButCount (entry_of s j) (entry_at (step c s).image (slot_held s j)))
      → (lun_at s.desk j).held ≡ true → SameButCount (entry_of s j) (entry_at (done c s).image (slot_held s j))
  left_as c a f h = rw a.is at (f h)

  wrote : (caller lun sel num : ℕ) (fmt : Bool) (bs : List ℕ) → Accepted (write caller lun sel num fmt bs) s
      → SameButCount (entry_of s lun) (entry_at (step (write caller lun sel num fmt bs) s).image (slot_held s lun))
  unfolding file_of
  wrote caller lun sel num fmt bs a = (accepted_write s caller lun sel num fmt bs (accepts_it _ s a)).same_but_count

  updated : (caller lun sel num : ℕ) (fmt : Bool) (bs : List ℕ) → Accepted (update caller lun sel num fmt bs) s
      → SameButCount (entry_of s lun) (entry_at (step (update caller lun sel num fmt bs) s).image (slot_held s lun))
  unfolding file_of
  updated caller lun sel num fmt bs a =
      alike_entry _ _ (accepted_update s g.volume.is_bytes caller lun sel num fmt bs (accepts_it _ s a)).entry_same

  seat_assigned : (caller lun : ℕ) (desc : List ℕ) (mode : ℕ) (end : Bool) (offered : ℕ) → Accepted (assign caller lun desc mode end offered) s
      → (lun_at (put_lun s.desk lun (new_lun s.image caller desc mode end offered)) j).held ≡ true
      → (SameSeat s (state s.image (put_lun s.desk lun (new_lun s.image caller desc mode end offered))) j)
      ⊎ (NewSeat (assign caller lun desc mode end offered) s (state s.image (put_lun s.desk lun (new_lun s.image caller desc mode end offered))) j)
  unfolding new_lun seat_of named
  seat_assigned caller lun desc mode end offered a h =
      let c : Call = assign caller lun desc mode end offered in
      let u : Lun = new_lun s.image caller desc mode end offered in
      let file : described (entry_at s.image (slot_of s.image desc)) ≡ desc = sym (same-true _ _ (file_named (assign_told caller lun desc mode end offered s a).named_file)) in
      ⊎_elim
      (λ e. inl (kept_seat s s.image _ j (alike s.desk _ j e) h (λ x. alike_refl (entry_of s j))))
      (λ t.
      inr (record {
        mode = mode;
        end = end;
        is_assign = λ i.
            assign (sym (ap (λ (v : Lun). v.user) t.1) i) (sym t.0 i) (sym (ap (λ (v : Lun). described (entry_at s.image v.slot)) t.1 ∙ file) i) mode end
            (sym (ap (λ (v : Lun). v.offered) t.1) i);
        is_accepted = accepts_it c s a;
      }))
      (Lun-put s.desk lun j u)

  seat_carried : (c : Call) → Accepted c s → (lun_at (done c s).desk j).held ≡ true → (SameSeat s (carried_to c s) j) ⊎ (NewSeat c s (carried_to c s) j)
  unfolding done quietly checked closed_up_to transferred after touch changes
  seat_carried (format id n) a h = absurd (true≢false (sym h ∙ empty_free j))
  seat_carried check a h = inl (kept_seat s s.image s.desk j (alike s.desk s.desk j refl) h (λ x. alike_refl (entry_of s j)))
  seat_carried bring_up a h =
      let same = ap (λ (v : List ℕ). entry_at v (slot_held s j)) (up_stays s g.volume.is_sound a) in
      inl (kept_seat s (done bring_up s).image s.desk j (alike s.desk s.desk j refl) h (λ x. alike_entry _ _ same))
  seat_carried (compact n) a h =
      let R = compacted-Rearranged n s.image g.volume.is_sound in
      inl (kept_seat s (done (compact n) s).image s.desk j (alike s.desk s.desk j refl) h (λ x. alike_entry _ _ (entry_same _ _ R (slot_held s j))))
  seat_carried (allocate caller desc k n l rc) a h =
      let c : Call = allocate caller desc k n l rc in
      inl (kept_seat s (done c s).image s.desk j (alike s.desk s.desk j refl) h (left_as c a (λ x. untouched s g j x c refl)))
  seat_carried (assign caller lun desc mode end offered) a h = seat_assigned caller lun desc mode end offered a h
  seat_carried (close caller lun) a h =
      ⊎_elim
      (λ e. inl (kept_seat s s.image _ j (alike s.desk _ j e) h (λ x. alike_refl (entry_of s j))))
      (λ t. absurd (true≢false (sym h ∙ ap (λ (u : Lun). u.held) t.1 ∙ free_lun_lem)))
      (Lun-put s.desk lun j free_lun)
  seat_carried (rewind caller lun) a h = inl (kept_seat s s.image _ j (Alike-moved s.desk lun j Fresh) h (λ x. alike_refl (entry_of s j)))
  seat_carried (delete caller desc) a h =
      let c : Call = delete caller desc in
      inl (kept_seat s (done c s).image s.desk j (alike s.desk s.desk j refl) h (left_as c a (λ x. untouched s g j x c (undeleted s g j x caller desc a))))
  seat_carried (read caller lun sel num fmt buf) a h =
      let c : Call = read caller lun sel num fmt buf in
      inl (kept_seat s (done c s).image _ j (Alike-moved s.desk lun j _) h (left_as c a (λ x. untouched s g j x c refl)))
  seat_carried (write caller lun sel num fmt bs) a h =
      let c : Call = write caller lun sel num fmt bs in
      inl (kept_seat s (done c s).image _ j (Alike-moved s.desk lun j _) h (left_as c a (λ x. transferred_to s g j x c lun _ _ refl (wrote caller lun sel num fmt bs a))))
  seat_carried (update caller lun sel num fmt bs) a h =
      let c : Call = update caller lun sel num fmt bs in
      inl (kept_seat s (done c s).image _ j (Alike-moved s.desk lun j _) h (left_as c a (λ x. transferred_to s g j x c lun _ _ refl (updated caller lun sel num fmt bs a))))

  pub seat_step : (c : Call) → (lun_at (next c s).desk j).held ≡ true → (SameSeat s (next c s) j) ⊎ (NewSeat c s (next c s) j)
  seat_step c h =
      ⊎_elim
      (λ t. inl (rw (next_refused c s t) (same_seat s j (rw (next_refused c s t) at h))))
      (λ a. rw (next-Accepted c s a) (seat_carried c a (rw (next-Accepted c s a) at h)))
      (refused_or_Accepted c s)
