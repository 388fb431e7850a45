-- A step moves one sector, and a compaction any number of them: the volume is rearranged, and stays sound.
use mathlib.Core.Path.{◌≡◌}
use mathlib.Core.Bool.{true, false}
use mathlib.Core.List.{List}
use Prim.Native.Nat.{ℕ, ◌≤◌}
use lib.ListN.{length}
use borrow.Author.Tests.{ltb-false}
use Rattle.numbers.specs.Numbers.{most_segments}
use Rattle.files.specs.Files.{sound}
use Rattle.files.proofs.SoundFacts.{facts}
use Rattle.moves.specs.Moves.{rerouted_pairs}
use Rattle.moves.proofs.Rearranged.{Rearranged, Rearranged-refl, Rearranged-trans, relocated-Rearranged}
use Rattle.compaction.specs.Compaction.{lowest_free, closed_up, step_file, step_number, stepped, overfull, after_one, compacted}
use Rattle.compaction.proofs.ClosedUp.{step_facts}
use Rattle.compaction.proofs.Quota.{compacted_by}

pub few_segments : (v : List ℕ) → overfull v ≡ false → length (rerouted_pairs v (step_file v) (step_number v) (lowest_free v)) ≤ most_segments
unfolding overfull
few_segments v o = ltb-false _ _ o

pub step_Rearranged : (v : List ℕ) → sound v ≡ true → closed_up v ≡ false → overfull v ≡ false → Rearranged v (stepped v)
unfolding stepped step_file
step_Rearranged v h c o =
    let S = step_facts v c in
    relocated-Rearranged v (facts v h) _ S.slot S.used S.sequential (step_number v) (lowest_free v) S.number S.inside S.is_free (few_segments v o)

pub compacted-Rearranged : (n : ℕ) (v : List ℕ) → sound v ≡ true → Rearranged v (compacted n v).image
unfolding after_one
compacted-Rearranged =
    compacted_by (λ n v c. sound v ≡ true → Rearranged v c.image) (λ n v p h. Rearranged-refl v) (λ v p h. Rearranged-refl v) (λ n v p o h. Rearranged-refl v)
    (λ n v c p o r h.
    let R = step_Rearranged v h p o in
    Rearranged-trans v (stepped v) c.image R (r (R.sound_after h)))
