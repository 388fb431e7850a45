-- What a step changes: the highest data sector is free, the lowest free one has its data, and each search goes on from where it found.
use Rattle.std.specs.Prelude.{if◌then◌else◌}
use mathlib.Core.Path.{◌≡◌, refl, sym, ap, ◌∙◌}
use mathlib.Core.Logic.{◌≢◌}
use mathlib.Core.Bool.{Bool, true, false, true≢false}
use mathlib.Core.List.{List}
use Prim.Native.Nat.{ℕ, ◌*◌, ◌<◌, ◌≤◌, ◌-◌}
use native.Mathlib.Omega.{arith}
use native.Mathlib.Decide.{dec_lt, ℕ_discrete}
use lib.Dec.{eqb}
use borrow.Author.Tests.{eqb-true, eqb-false, eq-eqb, ne_eqb}
use Rattle.lists.specs.Lists.{among, topmost, first}
use Rattle.lists.specs.Parts.{sectors}
use Rattle.lists.proofs.Tests.{is_false}
use Rattle.lists.proofs.Ranges.{first_skip}
use Rattle.lists.proofs.IndexFound.{first_before}
use Rattle.volume.specs.Volume.{dirs, sat}
use Rattle.volume.specs.Directory.{entry_at, unused, contiguous}
use Rattle.volume.specs.Sat.{is_free}
use Rattle.ownership.specs.Owners.{logical}
use Rattle.files.specs.Files.{sound}
use Rattle.files.proofs.SoundFacts.{Facts, facts}
use Rattle.files.proofs.SequentialFile.{logical-distinct}
use Rattle.files.proofs.OneFileChanged.{file_other}
use Rattle.moves.specs.Moves.{sector_of, rerouted}
use Rattle.lists.proofs.MembersReplaced.{among-set}
use Rattle.moves.proofs.Relocated.{relocated-Changed, relocated-logical}
use Rattle.moves.proofs.RelocatedSound.{relocated_free}
use Rattle.moves.proofs.Rearranged.{Rearranged, entry_same, dirs_same, sectors_same}
use Rattle.compaction.specs.Compaction.{holds_data, holder_of, highest_data, lowest_free, closed_up, overfull, step_file, step_number, stepped}
use Rattle.lists.proofs.TopmostFound.{topmost_above, topmost_shrink}
use Rattle.compaction.proofs.DataSectors.{Holder, Holder-found, holder_none, holder_holds, holder_is}
use Rattle.compaction.proofs.ClosedUp.{StepFacts, step_facts}
use Rattle.compaction.proofs.StepsRearrange.{few_segments, step_Rearranged}

module _ (v : List ℕ) (sound-now : sound v ≡ true) (c : closed_up v ≡ false) (o : overfull v ≡ false) where
  abbrev k : ℕ
  k = holder_of v (highest_data v)

  F : Facts v
  F = facts v sound-now

  S : StepFacts v
  S = step_facts v c

  R : Rearranged v (stepped v)
  R = step_Rearranged v sound-now c o

  pub stepped_free : (u : ℕ) → u < sectors v
      → is_free (sat (stepped v)) u ≡ (if eqb u (lowest_free v) then false else (if eqb u (highest_data v) then true else is_free (sat v) u))
  unfolding stepped step_file
  stepped_free u l =
      relocated_free v F k S.slot S.used S.sequential (step_number v) (lowest_free v) S.number S.inside S.is_free (few_segments v o) u l
      ∙ ap (λ (x : ℕ). if eqb u (lowest_free v) then false else (if eqb u x then true else is_free (sat v) u)) S.is_highest

  -- the sectors of the file that the step is about, and of any other
  members_here : (u : ℕ) → among u (logical (stepped v) (entry_at v k))
      ≡ (if eqb u (lowest_free v) then true else (if eqb u (highest_data v) then false else among u (logical v (entry_at v k))))
  unfolding stepped step_file rerouted sector_of
  members_here u =
      ap (among u) (relocated-logical v F k S.slot S.used S.sequential (step_number v) (lowest_free v) S.number S.inside S.is_free (few_segments v o))
      ∙ among-set (logical v (entry_at v k)) (step_number v) (lowest_free v) u (logical-distinct v F k S.slot S.used S.sequential) S.number
      ∙ ap (λ (x : ℕ). if eqb u (lowest_free v) then true else (if eqb u x then false else among u (logical v (entry_at v k)))) S.is_highest

  members_other : (j : ℕ) → j < 8 * dirs v → j ≢ k → unused (entry_at v j) ≡ false → logical (stepped v) (entry_at v j) ≡ logical v (entry_at v j)
  unfolding stepped step_file
  members_other j l n u =
      (file_other v _ k (entry_at v k) _
      (relocated-Changed v F k S.slot S.used S.sequential (step_number v) (lowest_free v) S.number S.inside S.is_free (few_segments v o))
      j l n u).logical_same

  -- who has a sector, before and after
  on_entry : (u j : ℕ) → j < 8 * dirs v → unused (entry_at v j) ≡ false → contiguous (entry_at v j) ≡ false → among u (logical (stepped v) (entry_at v j)) ≡ true
      → Holder (stepped v) u j
  on_entry u j l us s m =
      let e : entry_at (stepped v) j ≡ entry_at v j = entry_same v (stepped v) R j in
      record {
        slot = rw (dirs_same v (stepped v) R) l;
        used = rw e us;
        sequential = rw e s;
        member = rw e m;
      }

  off_entry : (u j : ℕ) → Holder (stepped v) u j
      → (j < 8 * dirs v) × (unused (entry_at v j) ≡ false) × (contiguous (entry_at v j) ≡ false) × (among u (logical (stepped v) (entry_at v j)) ≡ true)
  off_entry u j h =
      let e : entry_at (stepped v) j ≡ entry_at v j = entry_same v (stepped v) R j in
      (rw (dirs_same v (stepped v) R) at h.slot, rw e at h.used, rw e at h.sequential, rw e at h.member)

  new_Holder : Holder (stepped v) (lowest_free v) k
  unfolding step_file
  new_Holder =
      on_entry (lowest_free v) k S.slot S.used S.sequential
      (members_here (lowest_free v) ∙ rw (eq-eqb (lowest_free v) (lowest_free v) refl))

  Holder-kept : (u j : ℕ) → eqb u (lowest_free v) ≡ false → eqb u (highest_data v) ≡ false → Holder v u j → Holder (stepped v) u j
  Holder-kept u j nq nh h =
      on_entry u j h.slot h.used h.sequential (elim (ℕ_discrete j k) [
        | yes z ↦ ap (λ (n : ℕ). among u (logical (stepped v) (entry_at v n))) z ∙ members_here u
            ∙ rw (nq, nh) (ap (λ (n : ℕ). among u (logical v (entry_at v n))) (sym z) ∙ h.member)
        | no n ↦ ap (among u) (members_other j h.slot n h.used) ∙ h.member
      ])

  Holder-back : (u j : ℕ) → eqb u (lowest_free v) ≡ false → Holder (stepped v) u j → (eqb u (highest_data v) ≡ false) × Holder v u j
  Holder-back u j nq h = elim (ℕ_discrete j k) [
    | yes z ↦ here (eqb u (highest_data v)) refl z
    | no n ↦
        let H : Holder v u j = record { slot = g.0; used = g.1; sequential = g.2; member = ap (among u) (sym (members_other j g.0 n g.1)) ∙ g.3 } in
        (is_false _ (λ t. n (sym (holder_is v F u j H) ∙ ap (holder_of v) (eqb-true _ _ t))), H)
  ]
    where
      g : (j < 8 * dirs v) × (unused (entry_at v j) ≡ false) × (contiguous (entry_at v j) ≡ false) × (among u (logical (stepped v) (entry_at v j)) ≡ true)
      g = off_entry u j h

      in-file : j ≡ k → (if eqb u (highest_data v) then false else among u (logical v (entry_at v k))) ≡ true
      in-file z = sym (rw nq at (members_here u)) ∙ ap (λ (n : ℕ). among u (logical (stepped v) (entry_at v n))) (sym z) ∙ g.3

      here : (b : Bool) → eqb u (highest_data v) ≡ b → j ≡ k → (eqb u (highest_data v) ≡ false) × Holder v u j
      here true e z = absurd (true≢false (sym (rw e at (in-file z))))
      here false e z = (e, record { slot = g.0; used = g.1; sequential = g.2; member = ap (λ (n : ℕ). among u (logical v (entry_at v n))) z ∙ rw e at (in-file z) })

  nobody : (u : ℕ) → holds_data (stepped v) u ≡ false → holder_of (stepped v) u ≡ 8 * dirs v
  nobody u h = holder_none (stepped v) u h ∙ ap (λ (n : ℕ). 8 * n) (dirs_same v (stepped v) R)

  after : (u : ℕ) → (holds_data (stepped v) u ≡ (if eqb u (lowest_free v) then true else (if eqb u (highest_data v) then false else holds_data v u)))
      × (holder_of (stepped v) u ≡ (if eqb u (lowest_free v) then k else (if eqb u (highest_data v) then 8 * dirs v else holder_of v u)))
  after u = by (eqb u (lowest_free v)) (eqb u (highest_data v)) (holds_data v u) refl refl refl
    where
      by : (a b d : Bool) → eqb u (lowest_free v) ≡ a → eqb u (highest_data v) ≡ b → holds_data v u ≡ d
          → (holds_data (stepped v) u ≡ (if eqb u (lowest_free v) then true else (if eqb u (highest_data v) then false else holds_data v u)))
          × (holder_of (stepped v) u ≡ (if eqb u (lowest_free v) then k else (if eqb u (highest_data v) then 8 * dirs v else holder_of v u)))
      by true b d p q r =
          let z : u ≡ lowest_free v = eqb-true _ _ p in
          let H : Holder (stepped v) u k = rw z new_Holder in
          (rw p (holder_holds (stepped v) u k H), rw p (holder_is (stepped v) (facts (stepped v) (R.sound_after sound-now)) u k H))
      by false true d p q r =
          let h = is_false _ (λ t. true≢false (sym q ∙ (Holder-back u _ p (Holder-found (stepped v) u t)).0)) in
          (rw (p, q) h, rw (p, q) (nobody u h))
      by false false true p q r =
          let H = Holder-kept u _ p q (Holder-found v u r) in
          (rw (p, q, r) (holder_holds (stepped v) u _ H), rw (p, q) (holder_is (stepped v) (facts (stepped v) (R.sound_after sound-now)) u _ H))
      by false false false p q r =
          let h = is_false _ (λ t. true≢false (sym (holder_holds v u _ (Holder-back u _ p (Holder-found (stepped v) u t)).1) ∙ r)) in
          (rw (p, q, r) h, rw (p, q) (nobody u h ∙ sym (holder_none v u r)))

  pub stepped_holds : (u : ℕ) → holds_data (stepped v) u ≡ (if eqb u (lowest_free v) then true else (if eqb u (highest_data v) then false else holds_data v u))
  stepped_holds u = (after u).0

  pub stepped_holder : (u : ℕ)
      → holder_of (stepped v) u ≡ (if eqb u (lowest_free v) then holder_of v (highest_data v) else (if eqb u (highest_data v) then 8 * dirs v else holder_of v u))
  stepped_holder u = (after u).1

  -- the searches go on below the sector that was moved, and above the one that was free
  none_above : (x : ℕ) → highest_data v ≤ x → x < sectors v → holds_data (stepped v) x ≡ false
  unfolding highest_data
  none_above x a b = stepped_holds x ∙ rw (ne_eqb x (lowest_free v) (λ z. omega (arith, S.lower))) (by (eqb x (highest_data v)) refl)
    where
      by : (d : Bool) → eqb x (highest_data v) ≡ d → (if eqb x (highest_data v) then false else holds_data v x) ≡ false
      by true e = rw e
      by false e = rw e (topmost_above (holds_data v) (sectors v) x (more (eqb-false _ _ e)) b)
        where
          more : (x ≡ highest_data v → ⊥) → highest_data v < x
          more f = elim (dec_lt (highest_data v) x) [ yes m ↦ m | no m ↦ absurd (f (omega arith)) ]

  pub stepped_highest : highest_data (stepped v) ≡ topmost (holds_data (stepped v)) (highest_data v)
  unfolding highest_data
  stepped_highest =
      rw (sectors_same v (stepped v) R)
      (topmost_shrink (holds_data (stepped v)) (highest_data v) (sectors v) (omega (arith, S.highest_in)) none_above)

  none_below : (x : ℕ) → 0 ≤ x → x < lowest_free v → is_free (sat (stepped v)) x ≡ false
  unfolding lowest_free
  none_below x a b =
      stepped_free x (omega (arith, S.inside))
      ∙ rw (ne_eqb x (lowest_free v) (λ z. omega arith), ne_eqb x (highest_data v) (λ z. omega (arith, S.lower)))
      (first_before (is_free (sat v)) 0 (sectors v) x a b)

  pub stepped_lowest : lowest_free (stepped v) ≡ first (is_free (sat (stepped v))) (lowest_free v) (sectors v - lowest_free v)
  unfolding lowest_free
  stepped_lowest =
      let z : sectors v - 0 ≡ sectors v = omega arith in
      rw (sectors_same v (stepped v) R)
      (ap (first (is_free (sat (stepped v))) 0) (sym z)
      ∙ first_skip (is_free (sat (stepped v))) 0 (lowest_free v) (sectors v) (omega arith) (omega (arith, S.inside)) none_below)
