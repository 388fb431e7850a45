-- What it means that a volume is closed up, or not: no free sector below a data sector; or a sector to move, and where to.
use mathlib.Core.Path.{◌≡◌, sym, ap, ◌∙◌}
use mathlib.Core.Bool.{true, false, true≢false}
use mathlib.Core.List.{List}
use Prim.Native.Nat.{ℕ, ◌*◌, ◌<◌, ◌≤◌}
use native.Mathlib.Omega.{arith}
use native.Mathlib.Decide.{dec_lt}
use lib.ListN.{length, get_or}
use borrow.Author.Tests.{leb-true, leb-false}
use Rattle.lists.specs.Parts.{sectors}
use Rattle.lists.proofs.IndexFound.{first_holds, first_before}
use Rattle.lists.proofs.TopmostFound.{topmost_holds, topmost_below, topmost_most, topmost_least}
use Rattle.lists.proofs.Members.{member_below, member_at, among_at}
use Rattle.volume.specs.Volume.{dirs, sat}
use Rattle.volume.specs.Directory.{entry_at, unused, contiguous}
use Rattle.volume.specs.Sat.{is_free}
use Rattle.ownership.specs.Owners.{logical}
use Rattle.moves.specs.Moves.{sector_of}
use Rattle.files.proofs.SoundFacts.{Facts}
use Rattle.compaction.specs.Compaction.{holds_data, holder_of, highest_data, lowest_free, closed_up, step_file, step_number}
use Rattle.compaction.proofs.DataSectors.{Holder, Holder-found, holder_holds, data_not_free, data_inside}

-- the two searches
module _ (v : List ℕ) where
  pub data_most : (u : ℕ) → u < sectors v → holds_data v u ≡ true → u ≤ highest_data v
  unfolding highest_data
  data_most u l h = topmost_least (holds_data v) (sectors v) u l h

  pub free_least : (x : ℕ) → is_free (sat v) x ≡ true → lowest_free v ≤ x
  unfolding lowest_free
  free_least x h = elim (dec_lt x (lowest_free v)) [
    | yes m ↦ absurd (true≢false (sym h ∙ first_before (is_free (sat v)) 0 (sectors v) x (omega arith) m))
    | no m ↦ omega arith
  ]

-- closed up: every free sector lies above every data sector
module _ (v : List ℕ) (F : Facts v) (c : closed_up v ≡ true) where
  pub closed_means : (x u : ℕ) → x < sectors v → is_free (sat v) x ≡ true → holds_data v u ≡ true → u < sectors v → u < x
  unfolding closed_up
  closed_means x u lx f h lu = elim (dec_lt u x) [
    | yes m ↦ m
    | no m ↦
        let q : x ≡ u = omega (arith, data_most v u lu h, free_least v x f, leb-true (highest_data v) (lowest_free v) c) in
        absurd (true≢false (sym f ∙ ap (is_free (sat v)) q ∙ data_not_free v F u h))
  ]

  pub closed_files : (k a x : ℕ) → k < 8 * dirs v → unused (entry_at v k) ≡ false → contiguous (entry_at v k) ≡ false → a < length (logical v (entry_at v k))
      → x < sectors v → is_free (sat v) x ≡ true → get_or (logical v (entry_at v k)) a 0 < x
  closed_files k a x hk used seq la lx f =
      let H : Holder v (get_or (logical v (entry_at v k)) a 0) k = record { slot = hk; used = used; sequential = seq; member = among_at (logical v (entry_at v k)) a la } in
      let h = holder_holds v _ k H in
      closed_means x _ lx f h (data_inside v F _ h)

-- not closed up: the sector that a step moves, its file and its number there, and the free sector that it moves to
pub record StepFacts (v : List ℕ) : Type 0 where
  pub slot : holder_of v (highest_data v) < 8 * dirs v
  pub used : unused (step_file v) ≡ false
  pub sequential : contiguous (step_file v) ≡ false
  pub number : step_number v < length (logical v (step_file v))
  pub is_highest : sector_of v (step_file v) (step_number v) ≡ highest_data v
  pub inside : lowest_free v < sectors v
  pub is_free : is_free (sat v) (lowest_free v) ≡ true
  pub lower : lowest_free v < highest_data v
  pub highest_in : highest_data v < sectors v
  pub holds : holds_data v (highest_data v) ≡ true

module _ (v : List ℕ) (c : closed_up v ≡ false) where
  lower_free : lowest_free v < highest_data v
  unfolding closed_up
  lower_free = leb-false _ _ c

  highest_inside : highest_data v < sectors v
  unfolding highest_data
  highest_inside = topmost_below (holds_data v) (sectors v) (omega (arith, topmost_most (holds_data v) (sectors v), lower_free))

  highest_holds : holds_data v (highest_data v) ≡ true
  unfolding highest_data
  highest_holds = topmost_holds (holds_data v) (sectors v) (omega (arith, lower_free))

  lowest_free_lem : is_free (sat v) (lowest_free v) ≡ true
  unfolding lowest_free
  lowest_free_lem = first_holds (is_free (sat v)) 0 (sectors v) (omega (arith, lower_free, highest_inside))

  pub step_facts : StepFacts v
  unfolding step_file step_number sector_of
  step_facts =
      let h = Holder-found v (highest_data v) highest_holds in
      record {
        slot = h.slot;
        used = h.used;
        sequential = h.sequential;
        number = member_below _ _ h.member;
        is_highest = member_at _ _ h.member;
        inside = omega (arith, lower_free, highest_inside);
        is_free = lowest_free_lem;
        lower = lower_free;
        highest_in = highest_inside;
        holds = highest_holds;
      }
