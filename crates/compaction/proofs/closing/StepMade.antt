-- A step as the code makes it: the slot from the table, the number from the access block; and the table after it.
use Rattle.std.specs.Prelude.{if◌then◌else◌}
use mathlib.Core.Path.{◌≡◌, refl, sym, ap, ◌∙◌}
use mathlib.Core.Bool.{Bool, true, false, not}
use mathlib.Core.List.{List}
use Prim.Native.Nat.{ℕ, ◌*◌, ◌<◌}
use native.Mathlib.Omega.{arith}
use lib.ListN.{length, get_or, set, length-set}
use lib.Seq.{get_or-set_same, get_or-set_other}
use lib.Dec.{eqb, leb, ltb}
use borrow.Author.Tests.{eqb-true, eqb-false, leb-true, leb-false, le-ltb, lt-ltb}
use Rattle.numbers.specs.Numbers.{most_segments, most_sectors}
use Rattle.lists.specs.Lists.{index}
use Rattle.volume.specs.Volume.{dirs}
use Rattle.volume.specs.Directory.{entry_at, contiguous}
use Rattle.volume.specs.Code.Located.{Located}
use Rattle.volume.specs.declared.locate.Layout.{Layout}
use Rattle.volume.proofs.Located.{Located-sound, Layout-is}
use Rattle.ownership.specs.Owners.{logical}
use Rattle.files.specs.Files.{sound}
use Rattle.files.specs.Code.Slots.{InUse}
use Rattle.files.proofs.SoundFacts.{Facts, facts}
use Rattle.moves.specs.Moves.{rerouted_pairs, relocated}
use Rattle.moves.proofs.Rearranged.{Rearranged}
use Rattle.compaction.specs.Compaction.{holder_of, highest_data, lowest_free, step_file, step_number, stepped, overfull}
use Rattle.compaction.specs.Code.Going.{Tabled, NextStep}
use Rattle.moves.specs.Code.Shapes.{Movable}
use Rattle.compaction.proofs.ClosedUp.{StepFacts, step_facts}
use Rattle.compaction.proofs.Stepped.{stepped_holder}
use Rattle.compaction.proofs.StepsRearrange.{step_Rearranged}

not-ltb : (a b : ℕ) → leb a b ≡ not (ltb b a)
not-ltb a b = by (leb a b) refl
  where
    by : (t : Bool) → leb a b ≡ t → t ≡ not (ltb b a)
    by true e = ap not (sym (le-ltb b a (leb-true a b e)))
    by false e = ap not (sym (lt-ltb b a (leb-false a b e)))

-- the layout is as it was
Located-after : (v v' : List ℕ) (p : Layout) → Rearranged v v' → sound v ≡ true → Located v p → Located v' p
Located-after v v' p R s l = rw (Layout-is v p l ∙ sym R.layout_same) (Located-sound v' (facts v' (R.sound_after s)).one)

module _ (img : List ℕ) (p : Layout) (who : List ℕ) (hi lo : ℕ) (N : NextStep img p who hi lo) where
  F : Facts img
  F = facts img N.tabled.is_sound

  S : StepFacts img
  S = step_facts img N.not_closed

  pub high_in : hi < length who
  high_in = omega (arith, N.is_highest, S.highest_in, F.high, N.tabled.table.long)

  pub low_in : lo < length who
  low_in = omega (arith, N.is_lowest, S.inside, F.high, N.tabled.table.long)

  -- the slot that the table says
  module _ (k : ℕ) (says : k ≡ get_or who hi 0) where
    is_held : k ≡ holder_of img hi
    is_held = says ∙ N.tabled.table.says hi (omega (arith, high_in, N.tabled.table.long))

    is_slot : k ≡ holder_of img (highest_data img)
    is_slot = is_held ∙ ap (holder_of img) N.is_highest

    is_file : entry_at img k ≡ step_file img
    unfolding step_file
    is_file = ap (entry_at img) is_slot

    pub file_InUse : InUse img p k
    file_InUse = record {
      located = N.tabled.located;
      is_sound = N.tabled.is_sound;
      slot = omega (arith, is_slot, S.slot, N.tabled.located.is_dirs);
      used = rw is_file S.used;
    }

    pub file_sequential : contiguous (entry_at img k) ≡ false
    file_sequential = rw is_file S.sequential

    -- and the number that its sectors say
    module _ (i : ℕ) (at : i ≡ index (eqb hi) (logical img (entry_at img k))) where
      is_number : i ≡ step_number img
      unfolding step_number
      is_number = at ∙ rw (is_file, N.is_highest)

      pub movable : Movable img p k i hi lo
      movable = record {
        file = file_InUse;
        sequential = file_sequential;
        number = rw (is_file, is_number) S.number;
        is_from = rw (is_file, is_number) (N.is_highest ∙ sym S.is_highest);
        inside = omega (arith, N.is_lowest, S.inside);
        is_free = rw N.is_lowest S.is_free;
      }

      pub step_answer : (r : Bool) → r ≡ leb (length (rerouted_pairs img (entry_at img k) i lo)) most_segments → r ≡ not (overfull img)
      unfolding overfull
      step_answer r e = e ∙ rw (is_file, is_number, N.is_lowest) (not-ltb (length (rerouted_pairs img (step_file img) (step_number img) (lowest_free img))) most_segments)

      pub step_image : (r : Bool) (img' : List ℕ) → img' ≡ (if r then relocated (entry_at img k) i lo img else img) → img' ≡ (if r then stepped img else img)
      unfolding stepped
      step_image r img' e = rw (is_file, is_number, N.is_lowest) at e

    -- the table with the slot at the new sector, and none at the old one
    module _ (none : ℕ) (is_none : none ≡ 8 * p.dirs) (o : overfull img ≡ false) where
      says_after : (x : ℕ) → x < most_sectors → get_or (set (set who lo k) hi none) x 0 ≡ holder_of (stepped img) x
      says_after x l = by (eqb x lo) (eqb x hi) refl refl ∙ sym (rw (← N.is_lowest, ← N.is_highest) at (stepped_holder img N.tabled.is_sound N.not_closed o x))
        where
          low : length (set who lo k) ≡ length who
          low = length-set who lo k

          by : (a b : Bool) → eqb x lo ≡ a → eqb x hi ≡ b
              → get_or (set (set who lo k) hi none) x 0 ≡ (if eqb x lo then holder_of img hi else (if eqb x hi then 8 * dirs img else holder_of img x))
          by true true a b = absurd (omega (arith, eqb-true x lo a, eqb-true x hi b, N.is_highest, N.is_lowest, S.lower))
          by true false a b =
              rw a (get_or-set_other (set who lo k) hi x none 0 (eqb-false x hi b) ∙ ap (λ (y : ℕ). get_or (set who lo k) y 0) (eqb-true x lo a)
              ∙ get_or-set_same who lo k 0 low_in ∙ is_held)
          by false true a b =
              rw (a, b) (ap (λ (y : ℕ). get_or (set (set who lo k) hi none) y 0) (eqb-true x hi b) ∙ get_or-set_same (set who lo k) hi none 0 (omega (arith, low, high_in))
              ∙ omega (arith, is_none, N.tabled.located.is_dirs))
          by false false a b =
              rw (a, b) (get_or-set_other (set who lo k) hi x none 0 (eqb-false x hi b) ∙ get_or-set_other who lo x k 0 (eqb-false x lo a) ∙ N.tabled.table.says x l)

      pub step_table : Tabled (stepped img) p (set (set who lo k) hi none)
      step_table =
          let R = step_Rearranged img N.tabled.is_sound N.not_closed o in
          record {
            located = Located-after img (stepped img) p R N.tabled.is_sound N.tabled.located;
            is_sound = R.sound_after N.tabled.is_sound;
            table = record { long = length-set (set who lo k) hi none ∙ length-set who lo k ∙ N.tabled.table.long; says = says_after };
          }
