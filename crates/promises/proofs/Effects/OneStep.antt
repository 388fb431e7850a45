-- What one step of a compaction does.
use mathlib.Core.Path.{◌≡◌, ap, ◌∙◌}
use mathlib.Core.Bool.{true, false}
use mathlib.Core.List.{List}
use Prim.Native.Nat.{ℕ, ◌≤◌}
use native.Mathlib.Omega.{arith}
use lib.ListN.{length}
use Rattle.lists.specs.Lists.{flat}
use Rattle.lists.proofs.Tests.{is_false}
use Rattle.volume.specs.Directory.{entry_at}
use Rattle.ownership.specs.Blocks.{block, segments, segment}
use Rattle.ownership.specs.Owners.{logical}
use Rattle.ownership.proofs.AccessBlocks.{segments-block_of}
use Rattle.ownership.proofs.Fewest.{fewest_order, gives_order}
use Rattle.files.specs.Files.{sound}
use Rattle.files.proofs.SoundFacts.{Facts, facts}
use Rattle.moves.specs.Moves.{sector_of, rerouted, rerouted_pairs}
use Rattle.moves.proofs.Relocated.{relocated-Changed, relocated-block, relocated-logical, relocated-entries, relocated_new, relocated_old}
use Rattle.moves.proofs.RelocatedSound.{relocated_free}
use Rattle.compaction.specs.Compaction.{holder_of, highest_data, lowest_free, closed_up, step_file, step_number, stepped, overfull}
use Rattle.compaction.proofs.ClosedUp.{StepFacts, step_facts, data_most, free_least}
use Rattle.compaction.proofs.DataSectors.{data_inside, holder_holds}
use Rattle.lists.proofs.Members.{among_at}
use Rattle.compaction.proofs.StepsRearrange.{few_segments, step_Rearranged}
use Rattle.promises.specs.Compacting.{Fewest, DataSector, StepMoves, OneStep}
use Rattle.promises.specs.Sectors.{leads_to}
use Rattle.promises.proofs.Effects.ClosedVolumes.{contents_stay}
use Rattle.promises.proofs.Units.{same_other}

module _ (v : List ℕ) (h : sound v ≡ true) (c : closed_up v ≡ false) (o : overfull v ≡ false) where
  F : Facts v
  F = facts v h

  S : StepFacts v
  S = step_facts v c

  abbrev k : ℕ
  k = holder_of v (highest_data v)

  abbrev a : ℕ
  a = step_number v

  abbrev q : ℕ
  q = lowest_free v

  highest : leads_to v k a ≡ highest_data v
  unfolding step_file sector_of
  highest = S.is_highest

  at_most : (j b : ℕ) → DataSector v j b → leads_to v j b ≤ highest_data v
  at_most j b D =
      let m =
      holder_holds v (leads_to v j b) j (record {
        slot = D.file.slot;
        used = D.file.used;
        sequential = D.sequential;
        member = among_at
            (logical v (entry_at v j)) b D.there;
      }) in
      data_most v (leads_to v j b) (data_inside v F (leads_to v j b) m) m

  fewest_now : (ps : List (List ℕ)) → flat segment ps ≡ logical (stepped v) (entry_at v k) → segments (block (stepped v) (entry_at v k)) ≤ length ps
  unfolding stepped step_file rerouted_pairs
  fewest_now ps e =
      let b = relocated-block v F k S.slot S.used S.sequential a q S.number S.inside S.is_free (few_segments v o) in
      let l = relocated-logical v F k S.slot S.used S.sequential a q S.number S.inside S.is_free (few_segments v o) in
      omega (arith, ap (λ (f : List ℕ). segments f) b ∙ segments-block_of _ _ _, fewest_order ps _ (e ∙ l))

  pub step_moves : StepMoves v (stepped v) (holder_of v (highest_data v)) (step_number v) (lowest_free v)
  unfolding stepped step_file rerouted sector_of
  step_moves = record {
    is_data = record { file = record { slot = S.slot; used = S.used }; sequential = S.sequential; there = S.number };
    is_highest = λ j b D. omega (arith, at_most j b D, highest);
    was_free = S.is_free;
    is_lowest = λ x l. is_false _ (λ f. absurd (omega (arith, l, free_least v x f)));
    is_lower = omega (arith, S.lower, highest);
    entries_same = relocated-entries v F k S.slot S.used S.sequential a q S.number S.inside S.is_free (few_segments v o);
    moved_there = relocated-logical v F k S.slot S.used S.sequential a q S.number S.inside S.is_free (few_segments v o);
    fewest = fewest_now;
    contents_same = contents_stay v (stepped v) (step_Rearranged v h c o) k (record { slot = S.slot; used = S.used });
    others_same =
        λ j f n. same_other v (stepped v) k (entry_at v k) _
        (relocated-Changed v F k S.slot S.used S.sequential a q S.number S.inside S.is_free (few_segments v o)) j f n;
    new_bytes = relocated_new v F k S.slot S.used S.sequential a q S.number S.inside S.is_free (few_segments v o);
    old_bytes = relocated_old v F k S.slot S.used S.sequential a q S.number S.inside S.is_free (few_segments v o);
    marks = relocated_free v F k S.slot S.used S.sequential a q S.number S.inside S.is_free (few_segments v o);
  }

pub Fewest-segments : Fewest
Fewest-segments = record { same_order = gives_order; none_shorter = λ ss ps e. fewest_order ps ss e }

pub one_step : OneStep
one_step v h c o = (holder_of v (highest_data v), step_number v, lowest_free v, step_moves v h c o)
