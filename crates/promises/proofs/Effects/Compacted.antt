-- What an accepted compaction does; after a settled end, a further one; and what reads see of it.
use mathlib.Core.Path.{◌≡◌, refl, ap, sym, ◌∙◌}
use mathlib.Core.Bool.{Bool, true, false, not, true≢false}
use mathlib.Core.List.{List, []}
use mathlib.Core.Logic.{⊎_elim}
use Prim.Native.Nat.{ℕ, zero, suc, ◌+◌, ◌≤◌}
use native.Mathlib.Omega.{arith}
use native.Mathlib.Nat.{add-zero}
use borrow.Author.Tests.{ne_eqb, le-ltb}
use Rattle.numbers.specs.Numbers.{most_quota}
use Rattle.lists.proofs.Tests.{both_true}
use Rattle.files.specs.Files.{sound}
use Rattle.files.proofs.SoundFacts.{facts}
use Rattle.keeping.proofs.LongRuns.{long_run}
use Rattle.compaction.specs.Compaction.{Closing, closed_up, compacted}
use Rattle.compaction.specs.Code.Going.{after_many}
use Rattle.compaction.specs.declared.Ending.TheVariants.{Settled}
use Rattle.compaction.proofs.ClosedUp.{closed_files}
use Rattle.compaction.proofs.Quota.{compacted_again, compacted-add, compacted_most, compacted-settled, compacted_quota, compacted_segment, compacted_steps}
use Rattle.work.proofs.Rules.{Passes}
use Rattle.std.specs.Prelude.{Ok}
use Rattle.desk.specs.declared.Report.TheVariants.{Compacted}
use Rattle.desk.specs.Desk.{State, state, ready}
use Rattle.desk.specs.Answers.{Outcome, outcome, accepts}
use Rattle.desk.specs.Calls.{compact, compact_rules, rules, done, closed_up_to, step}
use Rattle.luns.proofs.Fitting.{fits_is}
use Rattle.promises.specs.Compacting.{Compacts, AcceptedCompact, LittleByLittle, SettledAgain, ReadsAlike, NoFreeBelow, LongRuns}
use Rattle.promises.specs.Runs.{next}
use Rattle.promises.proofs.Effects.ClosedVolumes.{contents_stay, run_stays, Fitting-stays}
use Rattle.promises.proofs.Effects.ReadsAlike as read
use Rattle.promises.proofs.Held.{ready_sound, ready_Fitting}
use Rattle.promises.proofs.Passing.{Accepted, accepted, carried, step-Passes, next-Accepted, next_refused, refused_or_Accepted}
use Rattle.compaction.proofs.StepsRearrange.{compacted-Rearranged}
use Rattle.promises.proofs.Told.{compact_told}

module _ (v : List ℕ) (h : sound v ≡ true) (c : closed_up v ≡ true) where
  none_below : NoFreeBelow v
  none_below k a D x l f = closed_files v (facts v h) c k a x D.file.slot D.file.used D.sequential D.there l f

  runs_long : LongRuns v
  runs_long = long_run v (facts v h) (λ k a x hk u q l m f. none_below k a (record { file = record { slot = hk; used = u }; sequential = q; there = l }) x m f)

compacts : (s : State) (quota : ℕ) → sound s.image ≡ true → Compacts s (carried (compact quota) s) quota (compacted quota s.image).moved (compacted quota s.image).ending
unfolding done closed_up_to
compacts s quota h =
    let v : List ℕ = s.image in
    let R = compacted-Rearranged quota v h in
    record {
      answered = refl;
      by_steps = compacted_steps quota v;
      at_most = compacted_most quota v;
      is_sound = R.sound_after h;
      entries_same = R.entries_same;
      contents_same = contents_stay v _ R;
      runs_same = run_stays v _ R;
      system_same = λ x m n. R.system_same x m (ne_eqb _ _ n);
      desk_kept = refl;
      as_many_free = R.as_many_free;
      if_settled = λ e.
          let c = compacted-settled quota v e in (none_below _ (R.sound_after h) c, runs_long _ (R.sound_after h) c);
      if_quota = compacted_quota quota v;
      if_segment = compacted_segment quota v;
    }

pub accepted_compact : AcceptedCompact
accepted_compact s quota h =
    let a = accepted (compact quota) s h in
    rw a.is (compacts s quota (ready_sound s (compact_told quota s a).is_ready))

-- a ready state and a quota in range: it is carried out, and leaves a state that is ready
compact-Accepted : (s : State) (n : ℕ) → ready s ≡ true → n ≤ most_quota → Accepted (compact n) s
unfolding rules compact_rules
compact-Accepted s n r l =
    let p : Passes (rules (compact n) s) = (ap not r, (le-ltb most_quota n l, tt)) in
    record { passes = p; is = step-Passes (compact n) s p }

still_ready : (s : State) (n : ℕ) → ready s ≡ true → ready (state (compacted n s.image).image s.desk) ≡ true
unfolding ready
still_ready s n r =
    let R = compacted-Rearranged n s.image (ready_sound s r) in
    both_true _ _ (R.sound_after (ready_sound s r)) (fits_is _ s.desk.luns (Fitting-stays s.image _ R s.desk.luns (ready_Fitting s r)))

-- the state after it
compact-next : (s : State) (n : ℕ) → ready s ≡ true → n ≤ most_quota → next (compact n) s ≡ state (compacted n s.image).image s.desk
unfolding done closed_up_to
compact-next s n r l = next-Accepted (compact n) s (compact-Accepted s n r l)

compact_unready : (s : State) (n : ℕ) → ready s ≡ false → next (compact n) s ≡ s
compact_unready s n r =
    ⊎_elim
    (λ w. next_refused (compact n) s w)
    (λ a. absurd (true≢false (sym (compact_told n s a).is_ready ∙ r)))
    (refused_or_Accepted (compact n) s)

-- one quota after the other, on the image alone
images_add : (m n : ℕ) (v : List ℕ) → (compacted n (compacted m v).image).image ≡ (compacted (m + n) v).image
unfolding compacted after_many
images_add m zero v = rw (add-zero m)
images_add m (suc n) v = sym (ap (λ (c : Closing). c.image) (compacted-add m v (suc n) (omega arith)))

pub little_by_little : LittleByLittle
little_by_little s m n l = go (ready s) refl
  where
    go : (b : Bool) → ready s ≡ b → next (compact n) (next (compact m) s) ≡ next (compact (m + n)) s
    go false r = rw (compact_unready s m r, compact_unready s n r, compact_unready s (m + n) r)
    go true r =
        ap (next (compact n)) (compact-next s m r (omega (arith, l)))
        ∙ compact-next (state (compacted m s.image).image s.desk) n (still_ready s m r) (omega (arith, l))
        ∙ ap (λ (v : List ℕ). state v s.desk) (images_add m n s.image)
        ∙ sym (compact-next s (m + n) r l)

-- a settled volume stays as it is
module _ (s : State) (quota : ℕ) (a : Accepted (compact quota) s) where
  abbrev v' : List ℕ
  v' = (compacted quota s.image).image

  settled_so : (n : ℕ) → (step (compact quota) s).answer ≡ Ok (Compacted n Settled) → (compacted quota s.image).ending ≡ Settled
  unfolding done closed_up_to
  settled_so n e = let q = sym (ap (λ (o : Outcome). o.answer) a.is) ∙ e in cc

  again : (n : ℕ) → (step (compact quota) s).answer ≡ Ok (Compacted n Settled) → (more : ℕ) → more ≤ most_quota
      → step (compact more) (next (compact quota) s)
      ≡ outcome (Ok (Compacted 0 Settled)) (next (compact quota) s).image (next (compact quota) s).desk []
  unfolding done closed_up_to
  again n e more l =
      let c = compacted_again more v' (compacted-settled quota s.image (settled_so n e)) in
      let t : State = state v' s.desk in
      rw (next-Accepted (compact quota) s a, (compact-Accepted t more (still_ready s quota (compact_told quota s a).is_ready) l).is, c)

pub settled_again : SettledAgain
settled_again s quota n e more l = again s quota (accepted (compact quota) s (ap accepts e ∙ done-accepts n)) n e more l
  where
    done-accepts : (m : ℕ) → accepts (Ok (Compacted m Settled)) ≡ true
    done-accepts m = unfold accepts in refl

pub reads_alike : ReadsAlike
unfolding done closed_up_to
reads_alike s quota rs =
    ⊎_elim
    (λ w. rw (next_refused (compact quota) s w))
    (λ a.
    let h = ready_sound s (compact_told quota s a).is_ready in
    rw (next-Accepted (compact quota) s a) (read.reads_alike s.image _ (compacted-Rearranged quota s.image h) h rs s.desk))
    (refused_or_Accepted (compact quota) s)
