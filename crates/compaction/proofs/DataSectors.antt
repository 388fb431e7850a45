-- Who has which data sector: of a sequential file on a sound volume, one slot, no other, and no sector that is free.
use mathlib.Core.Path.{◌≡◌, refl, sym, ap, ◌∙◌}
use mathlib.Core.Bool.{Bool, true, false, true≢false}
use mathlib.Core.List.{List, []}
use Prim.Native.Nat.{ℕ, ◌*◌, ◌<◌}
use native.Mathlib.Omega.{arith}
use lib.Dec.{ltb, eqb}
use borrow.Author.Tests.{ltb-true, eqb-true, eqb-false}
use Rattle.lists.specs.Lists.{◌or◌, among}
use Rattle.lists.specs.Parts.{sectors, sector}
use Rattle.lists.proofs.Tests.{or_left, or_right, or_second, not_both, is_false}
use Rattle.lists.proofs.Lists.{all-among, among-append}
use Rattle.lists.proofs.IndexFound.{some-index, none_index, index_holds, some_at}
use Rattle.volume.specs.Volume.{dirs, sat, system}
use Rattle.volume.specs.Directory.{entries, entry_at, unused, contiguous, start}
use Rattle.volume.specs.Sat.{is_free}
use Rattle.volume.proofs.Slots.{length-entries}
use Rattle.ownership.specs.Blocks.{block, sectors_of}
use Rattle.ownership.specs.Owners.{logical, owned, all_owned}
use Rattle.files.proofs.SoundFacts.{Facts}
use Rattle.files.proofs.OwnersApart.{clear_at, slots_apart, owned_member}
use Rattle.files.proofs.SoundSat.{free_unowned, slot_below}
use Rattle.files.proofs.SequentialFile.{owned_is, logical_is}
use Rattle.compaction.specs.Compaction.{data_of, holds_data, holder_of}

-- x is a data sector of the sequential file in slot k
pub record Holder (v : List ℕ) (x k : ℕ) : Type 0 where
  pub slot : k < 8 * dirs v
  pub used : unused (entry_at v k) ≡ false
  pub sequential : contiguous (entry_at v k) ≡ false
  pub member : among x (logical v (entry_at v k)) ≡ true

-- an entry that has data sectors, and one that has none
module _ (v e : List ℕ) where
  pub data_none : unused e or contiguous e ≡ true → data_of v e ≡ []
  unfolding data_of
  data_none h = rw h

  data_is : unused e or contiguous e ≡ false → data_of v e ≡ logical v e
  unfolding data_of
  data_is h = rw h

  pub data_chain : (s : ℕ) → unused e ≡ false → contiguous e ≡ false → s ≡ start e → data_of v e ≡ sectors_of (sector s v)
  unfolding block
  data_chain s u c q = data_is (not_both _ _ u c) ∙ logical_is e u c v ∙ rw q

  data_kind : (x : ℕ) → among x (data_of v e) ≡ true → unused e or contiguous e ≡ false
  unfolding among
  data_kind x m = is_false _ (λ h. true≢false (sym (rw (data_none h) at m)))

  data_member : (x : ℕ) → among x (data_of v e) ≡ true → (unused e ≡ false) × (contiguous e ≡ false) × (among x (logical v e) ≡ true)
  data_member x m = let h = data_kind x m in (or_left _ _ h, or_right _ _ h, sym (ap (among x) (data_is h)) ∙ m)

module _ (v : List ℕ) (x : ℕ) where
  -- what the search finds
  pub Holder-found : holds_data v x ≡ true → Holder v x (holder_of v x)
  unfolding holds_data holder_of entry_at
  Holder-found h =
      let l = some-index (λ e. among x (data_of v e)) (entries v) h in
      let m = data_member v _ x (index_holds (λ e. among x (data_of v e)) (entries v) [] l) in
      record { slot = omega (arith, length-entries v); used = m.0; sequential = m.1; member = m.2 }

  pub holder_none : holds_data v x ≡ false → holder_of v x ≡ 8 * dirs v
  unfolding holds_data holder_of
  holder_none h = none_index (λ e. among x (data_of v e)) (entries v) h ∙ length-entries v

  -- any slot that has it is found
  module _ (k : ℕ) (H : Holder v x k) where
    member_data : among x (data_of v (entry_at v k)) ≡ true
    member_data = ap (among x) (data_is v (entry_at v k) (not_both _ _ H.used H.sequential)) ∙ H.member

    pub holder_holds : holds_data v x ≡ true
    unfolding holds_data entry_at
    holder_holds = some_at (λ e. among x (data_of v e)) (entries v) [] k (omega (arith, length-entries v, H.slot)) member_data

    member_owned : among x (owned v (entry_at v k)) ≡ true
    unfolding among
    member_owned = rw (owned_is (entry_at v k) H.used H.sequential v) (or_second _ _ H.member)

-- on a sound volume
module _ (v : List ℕ) (F : Facts v) (x : ℕ) where
  Holder-one : (j k : ℕ) → Holder v x j → Holder v x k → j ≡ k
  Holder-one j k J K = by (eqb j k) refl
    where
      by : (b : Bool) → eqb j k ≡ b → j ≡ k
      by true e = eqb-true j k e
      by false e =
          absurd (true≢false (sym (member_owned v x k K)
          ∙ clear_at _ _ x (slots_apart v F j k J.slot K.slot (eqb-false j k e)) (member_owned v x j J)))

  module _ (k : ℕ) (H : Holder v x k) where
    pub holder_is : holder_of v x ≡ k
    holder_is = Holder-one (holder_of v x) k (Holder-found v x (holder_holds v x k H)) H

    held_inside : x < sectors v
    held_inside = ltb-true _ _ (all-among (λ u. ltb u (sectors v)) (owned v (entry_at v k)) x (slot_below v F k H.slot) (member_owned v x k H))

    held_not_free : is_free (sat v) x ≡ false
    unfolding all_owned
    held_not_free =
        is_false _ (λ f.
        true≢false (sym (among-append x (system v) _ ∙ or_second _ _ (owned_member v F k x H.slot (member_owned v x k H))) ∙ free_unowned v F x held_inside f))

  pub data_inside : holds_data v x ≡ true → x < sectors v
  data_inside h = held_inside (holder_of v x) (Holder-found v x h)

  pub data_not_free : holds_data v x ≡ true → is_free (sat v) x ≡ false
  data_not_free h = held_not_free (holder_of v x) (Holder-found v x h)
