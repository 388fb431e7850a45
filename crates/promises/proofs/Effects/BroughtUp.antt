-- Bring-up: which volumes it accepts, what it makes of them, and that it keeps all that every call keeps.
use mathlib.Core.Path.{◌≡◌, refl, ap, sym, ◌∙◌}
use mathlib.Core.Bool.{Bool, true, false, not, true≢false}
use mathlib.Core.List.{List, []}
use Prim.Native.Nat.{ℕ, ◌*◌, ◌≤◌, ◌<◌}
use native.Mathlib.Decide.{dec_lt}
use native.Mathlib.Omega.{arith}
use lib.ListN.{length, get_or-eq_default}
use borrow.Author.Tests.{not-false, eq-eqb}
use Rattle.lists.specs.Lists.{◌or◌}
use Rattle.lists.proofs.Alike.{all_alike}
use Rattle.lists.proofs.Tests.{and_left, both_true, or_left, or_right, or_first, or_second}
use Rattle.lists.proofs.Walks.{all_yes}
use Rattle.volume.specs.Directory.{entries, entry_at, unused, contiguous, record_count, SameButCount}
use Rattle.volume.specs.Sat.{free}
use Rattle.volume.specs.Volume.{dirs}
use Rattle.volume.proofs.EntryCounted.{alike_entry}
use Rattle.volume.proofs.LayoutKept.{keeps_trailer}
use Rattle.volume.proofs.Slots.{length-entries}
use Rattle.files.specs.Changes.{brought_up}
use Rattle.files.specs.Files.{records, records_in, no_count, count_is, counts_are, sound, sound_before}
use Rattle.files.proofs.OwnersApart.{zero_not, last_not}
use Rattle.files.proofs.Kept.EntryAlike.{block_alike, logical_alike, stored_alike}
use Rattle.files.proofs.Kept.Recounted.{Recounted, recounted_dirs, recounted_free, recounted_records, recounted_file}
use Rattle.files.proofs.Kept.RecordsSame.{records_same}
use Rattle.files.proofs.slot.SlotInUse.{count_right}
use Rattle.files.proofs.SoundFacts.{Facts, facts, Facts-before, counts_true, counts_before}
use Rattle.files.proofs.slot.UsedSlots.{used_slot}
use Rattle.files.proofs.counting.BroughtUp.{up_Recounted, up_sound, up_Bytes}
use Rattle.keeping.proofs.BringUpKeeps.{none_at, up_none, up_elsewhere}
use Rattle.luns.specs.declared.Lun.{Lun}
use Rattle.luns.proofs.Fitting.{Fitting, fitting, fits_is, Fitting-kept}
use Rattle.work.specs.Volumes.{bring_up_rules}
use Rattle.work.specs.declared.Refusal.TheVariants.{NotSound}
use Rattle.work.proofs.Rules.{Passes}
use Rattle.desk.specs.Desk.{State, state}
use Rattle.desk.specs.Answers.{Outcome, accepts}
use Rattle.desk.specs.Calls.{bring_up, record_counts, rules, done, quietly, step}
use Rattle.std.specs.Prelude.{Err}
use Rattle.promises.specs.Answers.{First}
use Rattle.promises.specs.BroughtUp.{BringUpExactly, BroughtUp, AcceptedBringUp, SoundAlready}
use Rattle.promises.specs.Contents.{SameFrame}
use Rattle.promises.specs.Sectors.{File}
use Rattle.promises.specs.Touches.{changes}
use Rattle.promises.proofs.Held.{any_Lun}
use Rattle.promises.proofs.Passing.{Accepted, accepted, accepts_it, carried, step-First, step-Passes}
use Rattle.promises.proofs.Preserving.{Preserves}
use Rattle.promises.proofs.Units.{extent_kept, unit_kept, Lasting-by}

-- what acceptance tells, and what is accepted
pub bring_up_told : (s : State) → Accepted bring_up s → sound_before s.image ≡ true
unfolding rules bring_up_rules
bring_up_told s a = let (notSound, none) = a.passes in not-false _ notSound

old_is_Accepted : (s : State) → sound_before s.image ≡ true → Accepted bring_up s
unfolding rules bring_up_rules
old_is_Accepted s b =
    let p : Passes (rules bring_up s) = (ap not b, tt) in
    record { passes = p; is = step-Passes bring_up s p }

other_is_refused : (s : State) → sound_before s.image ≡ false → (step bring_up s).answer ≡ Err NotSound
unfolding rules bring_up_rules
other_is_refused s b =
    let f : First (rules bring_up s) 0 NotSound =
    record { inside = omega arith; is_rule = refl; applies = ap not b; none_earlier = λ j l. absurd (omega arith) } in
    ap (λ (o : Outcome). o.answer) (step-First bring_up s 0 NotSound f)

refused-accepts_not : accepts (Err NotSound) ≡ false
unfolding accepts
refused-accepts_not = refl

pub bring_up_exactly : BringUpExactly
bring_up_exactly s = record {
  old_accepted = (λ h. bring_up_told s (accepted bring_up s h), λ b. accepts_it bring_up s (old_is_Accepted s b));
  others_refused = (λ r. refused (sound_before s.image) refl r, other_is_refused s);
}
  where
    refused : (b : Bool) → sound_before s.image ≡ b → (step bring_up s).answer ≡ Err NotSound → sound_before s.image ≡ false
    refused true q r = absurd (true≢false (sym (accepts_it bring_up s (old_is_Accepted s q)) ∙ ap accepts r ∙ refused-accepts_not))
    refused false q r = q

-- a volume that was sound already stays as it is
pub up_stays : (s : State) → sound s.image ≡ true → Accepted bring_up s → (done bring_up s).image ≡ s.image
unfolding done quietly
up_stays s h a = up_none s.image (facts s.image h) (counts_true s.image h) (counts_before s.image (bring_up_told s a))

module _ (s : State) (b : sound_before s.image ≡ true) where
  abbrev v : List ℕ
  v = s.image

  abbrev v' : List ℕ
  v' = brought_up v

  F : Facts v
  F = Facts-before v b

  R : Recounted v v'
  R = up_Recounted v F

  records_stay : (k : ℕ) → File v k → contiguous (entry_at v k) ≡ false → records v' (entry_at v k) ≡ records v (entry_at v k)
  records_stay k f c = records_same v v' (entry_at v k) (recounted_file v v' F R k f.slot f.used) f.used c

  pub up_frame : SameFrame s.image (brought_up s.image)
  up_frame = record {
    as_long = R.keeps.long;
    vid_same = R.keeps.at 0 (zero_not v F).0;
    trailer_same = keeps_trailer _ v v' R.keeps (last_not v F).0;
  }

  up_Fitting : (us : List Lun) → Fitting v us → Fitting v' us
  up_Fitting us =
      Fitting-kept v v' us (λ u. true) (any_Lun us)
      (λ u h c o.
      let l : u.slot < 8 * dirs v = used_slot v u.slot o.used in
      (R.each u.slot l, omega (arith, extent_kept v v' (entry_at v u.slot) (records_stay u.slot (record { slot = l; used = o.used })))))

  pub Preserves-bring_up : (bs : List ℕ) → Preserves bs record_counts s (state (brought_up s.image) s.desk)
  unfolding changes
  Preserves-bring_up bs = record {
    sound_after = λ x h. record { is_sound = up_sound v F; is_bytes = up_Bytes v F h.is_bytes };
    good_after = λ x g. record {
      volume = record { is_sound = up_sound v F; is_bytes = up_Bytes v F g.volume.is_bytes };
      is_fitting = fits_is v' s.desk.luns (up_Fitting s.desk.luns (fitting v s.desk.luns g.is_fitting));
    };
    others = λ k f h. absurd (true≢false h);
    units = λ k i f l h.
        let same = recounted_file v v' F R k f.slot f.used in
        Lasting-by v v' k i (R.each k f.slot) (omega (arith, l, extent_kept v v' (entry_at v k) (records_stay k f)))
        (unit_kept v v' (entry_at v k) i same.stored_same (records_stay k f) l);
    frame = λ n. up_frame;
  }

  pub up_free : free (brought_up s.image) ≡ free s.image
  up_free = recounted_free v v' F R

  past : (u : List ℕ) (i : ℕ) → 8 * dirs u ≤ i → entry_at u i ≡ []
  unfolding entry_at
  past u i h = get_or-eq_default (entries u) [] (omega (arith, length-entries u))

  each_entry : (k : ℕ) → SameButCount (entry_at v k) (entry_at v' k)
  each_entry k = elim (dec_lt k (8 * dirs v)) [
    | yes l ↦ R.each k l
    | no g ↦ alike_entry (entry_at v k) (entry_at v' k) (past v' k (omega (arith, g, recounted_dirs v v' F R)) ∙ sym (past v k (omega (arith, g))))
  ]

  raised : BroughtUp s (carried bring_up s)
  unfolding done quietly
  raised = record {
    answered = refl;
    is_sound = up_sound v F;
    as_long = R.keeps.long;
    only_counts = λ j n. up_elsewhere v F j (λ k h u c. n k (record { slot = h; used = u }) c);
    entries_same = each_entry;
    files_same = λ k f.
        let same = recounted_file v v' F R k f.slot f.used in
        let alike : SameButCount (entry_at v k) (entry_at v' k) = R.each k f.slot in (
          record {
            bytes_same = stored_alike (entry_at v k) (entry_at v' k) alike v' ∙ same.stored_same;
            records_same = recounted_records v v' F R k f.slot f.used;
          },
          record {
            block_same = λ q. block_alike (entry_at v k) (entry_at v' k) alike v' ∙ same.block_same f.used q;
            sectors_same = logical_alike (entry_at v k) (entry_at v' k) alike v' ∙ same.logical_same;
          },
        );
    as_many_free = up_free;
    desk_kept = refl;
    still_fits = λ h. fits_is v' s.desk.luns (up_Fitting s.desk.luns (fitting v s.desk.luns h));
  }

pub accepted_bring_up : AcceptedBringUp
accepted_bring_up s h =
    let a = accepted bring_up s h in
    rw a.is (raised s (bring_up_told s a))

-- a volume that is sound already
module _ (s : State) (h : sound s.image ≡ true) where
  abbrev w : List ℕ
  w = s.image

  count_of : (k : ℕ) → File w k → contiguous (entry_at w k) ≡ false → record_count (entry_at w k) ≡ length (records w (entry_at w k))
  unfolding records_in
  count_of k f c = count_right w (facts w h) (records_in w) (counts_true w h) k f.slot f.used c

  not_old : (k : ℕ) → File w k → contiguous (entry_at w k) ≡ false → 1 ≤ length (records w (entry_at w k)) → sound_before w ≡ false
  not_old k f c some = go (sound_before w) refl
    where
      go : (x : Bool) → sound_before w ≡ x → sound_before w ≡ false
      go true q = absurd (omega (arith, some, count_of k f c, none_at w (facts w h) (counts_before w q) k f.slot f.used c))
      go false q = q

  module _ (none : (k : ℕ) → File w k → contiguous (entry_at w k) ≡ false → length (records w (entry_at w k)) ≡ 0) where
    none_in : (k : ℕ) → k < 8 * dirs w → (x : Bool) → unused (entry_at w k) or contiguous (entry_at w k) ≡ x → count_is no_count (entry_at w k) ≡ true
    unfolding count_is no_count
    none_in k l true q = or_first _ _ q
    none_in k l false q =
        let f : File w k = record { slot = l; used = or_left _ _ q } in
        let c : contiguous (entry_at w k) ≡ false = or_right _ _ q in
        or_second _ _ (eq-eqb _ _ (count_of k f c ∙ none k f c))

    none_in_all : counts_are no_count w ≡ true
    unfolding counts_are entry_at
    none_in_all =
        all_alike [] (λ x. true) (count_is no_count) (entries w) (entries w) refl
        (λ i l. none_in i (omega (arith, length-entries w)) (unused (entry_at w i) or contiguous (entry_at w i)) refl)
        ∙ all_yes (λ x. true) (entries w) (λ x. refl)

    still_old : sound_before w ≡ true
    unfolding sound_before sound
    still_old = both_true _ _ (and_left _ _ h) none_in_all

pub sound_already : SoundAlready
sound_already = record {
  with_records = λ s h k f c some. other_is_refused s (not_old s h k f c some);
  with_none = λ s h none.
      let a = old_is_Accepted s (still_old s h none) in
      (accepts_it bring_up s a, ap (λ (o : Outcome). o.image) a.is ∙ up_stays s h a);
}
