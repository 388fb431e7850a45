-- A volume brought up: no byte but those of record counts changes; and nothing at all, if the counts were right and all are zero.
use mathlib.Core.Path.{◌≡◌, refl, ap, sym, ◌∙◌}
use mathlib.Core.Bool.{Bool, true, false}
use mathlib.Core.List.{List}
use mathlib.Core.Logic.{◌⊎◌, inl, inr, ⊎_elim}
use Prim.Native.Nat.{ℕ, ◌+◌, ◌-◌, ◌*◌, ◌/◌, ◌%◌, ◌≤◌, ◌<◌}
use native.Mathlib.Decide.{dec_lt}
use native.Mathlib.Omega.{arith}
use lib.ListN.{length}
use Rattle.lists.specs.Lists.{◌or◌, flat}
use Rattle.lists.specs.Parts.{byte, part}
use Rattle.lists.proofs.LentParts.{byte-part}
use Rattle.lists.proofs.PutBytes.{byte-put_outside}
use Rattle.lists.proofs.Tests.{or_left, or_right}
use Rattle.volume.specs.Directory.{entries, entry_at, unused, contiguous, record_count, with_count}
use Rattle.volume.specs.Volume.{dir_at, dirs}
use Rattle.volume.proofs.EntriesMade.{made_same, made_length_all}
use Rattle.volume.proofs.EntryCounted.{byte_before, none_again}
use Rattle.volume.proofs.LayoutKept.{keeps_dir_at, keeps_dirs}
use Rattle.volume.proofs.Slots.{entry_part}
use Rattle.files.specs.Changes.{counted_in, brought_up}
use Rattle.files.specs.Files.{records_in, no_count, counts_are}
use Rattle.files.proofs.OwnersApart.{last_not}
use Rattle.files.proofs.OwnSectorsWritten.{slot_length}
use Rattle.files.proofs.slot.SlotInUse.{count_right}
use Rattle.files.proofs.SoundFacts.{Facts, CountsTrue}
use Rattle.files.proofs.counting.BroughtUp.{length-counted_in, dir_inside, up_entry, up_other, up_sequential, up_Recounted}

-- an entry of a volume from before there were counts
pub none_at : (v : List ℕ) → Facts v → counts_are no_count v ≡ true → (k : ℕ) → k < 8 * dirs v → unused (entry_at v k) ≡ false → contiguous (entry_at v k) ≡ false
    → record_count (entry_at v k) ≡ 0
unfolding no_count
none_at v F z k h u c = count_right v F no_count z k h u c

module _ (v : List ℕ) (F : Facts v) where
  abbrev v' : List ℕ
  v' = brought_up v

  abbrev at : ℕ
  at = 256 * dir_at v

  -- counts that were right, and zero
  pub up_none : CountsTrue v → counts_are no_count v ≡ true → brought_up v ≡ v
  unfolding brought_up
  up_none t z = made_same (counted_in v) v (dir_inside v F) (length-counted_in v) (λ k h. go k h (unused (entry_at v k) or contiguous (entry_at v k)) refl)
    where
      go : (k : ℕ) → k < 8 * dirs v → (b : Bool) → unused (entry_at v k) or contiguous (entry_at v k) ≡ b → counted_in v (entry_at v k) ≡ entry_at v k
      go k h true q = up_other v F (entry_at v k) q
      go k h false q =
          let u : unused (entry_at v k) ≡ false = or_left _ _ q in
          let c : contiguous (entry_at v k) ≡ false = or_right _ _ q in
          let none : record_count (entry_at v k) ≡ 0 = none_at v F z k h u c in
          let many : records_in v (entry_at v k) ≡ 0 = sym (count_right v F (records_in v) t k h u c) ∙ none in
          up_sequential v F (entry_at v k) u c ∙ ap (λ (n : ℕ). with_count n (entry_at v k)) many ∙ none_again (entry_at v k) (slot_length v F k h) none

  -- the bytes of one entry
  same_dir_at : dir_at v' ≡ dir_at v
  same_dir_at = keeps_dir_at _ v v' (up_Recounted v F).keeps (last_not v F).0

  same_dirs : dirs v' ≡ dirs v
  same_dirs = keeps_dirs _ v v' (up_Recounted v F).keeps (last_not v F).0

  entry_byte : (w : List ℕ) (k r : ℕ) → dir_at w ≡ dir_at v → dirs w ≡ dirs v → k < 8 * dirs v → r < 32 → byte w (at + 32 * k + r) ≡ byte (entry_at w k) r
  entry_byte w k r a d h l =
      sym (byte-part (at + 32 * k) 32 w r l)
      ∙ ap (λ (x : ℕ). byte (part (256 * x + 32 * k) 32 w) r) (sym a)
      ∙ ap (λ (x : List ℕ). byte x r) (sym (entry_part w k (omega (arith, d, h))))

  in_entry : (k r : ℕ) → k < 8 * dirs v → r < 32 → (unused (entry_at v k) ≡ false → contiguous (entry_at v k) ≡ false → r < 28)
      → byte v' (at + 32 * k + r) ≡ byte v (at + 32 * k + r)
  in_entry k r h l f =
      entry_byte v' k r same_dir_at same_dirs h l
      ∙ ap (λ (x : List ℕ). byte x r) (up_entry v F k h)
      ∙ go (unused (entry_at v k) or contiguous (entry_at v k)) refl
      ∙ sym (entry_byte v k r refl refl h l)
    where
      go : (b : Bool) → unused (entry_at v k) or contiguous (entry_at v k) ≡ b → byte (counted_in v (entry_at v k)) r ≡ byte (entry_at v k) r
      go true q = ap (λ (x : List ℕ). byte x r) (up_other v F (entry_at v k) q)
      go false q =
          let u : unused (entry_at v k) ≡ false = or_left _ _ q in
          let c : contiguous (entry_at v k) ≡ false = or_right _ _ q in
          ap (λ (x : List ℕ). byte x r) (up_sequential v F (entry_at v k) u c)
          ∙ byte_before (records_in v (entry_at v k)) (entry_at v k) (slot_length v F k h) r (f u c)

  all_long : length (flat (counted_in v) (entries v)) ≡ 256 * dirs v
  all_long = made_length_all (counted_in v) v (dir_inside v F) (length-counted_in v)

  outside : (j : ℕ) → (j < at) ⊎ (at + 256 * dirs v ≤ j) → byte v' j ≡ byte v j
  unfolding brought_up
  outside j h = byte-put_outside at (flat (counted_in v) (entries v)) v (omega (arith, all_long, dir_inside v F)) j (⊎_elim (λ l. inl l) (λ g. inr (omega (arith, all_long, g))) h)

  pub up_elsewhere : (j : ℕ) → ((k : ℕ) → k < 8 * dirs v → unused (entry_at v k) ≡ false → contiguous (entry_at v k) ≡ false
      → (j < 256 * dir_at v + 32 * k + 28) ⊎ (256 * dir_at v + 32 * k + 32 ≤ j)) → byte (brought_up v) j ≡ byte v j
  up_elsewhere j f = elim (dec_lt j at) [
    | yes l ↦ outside j (inl l)
    | no g ↦ elim (dec_lt j (at + 256 * dirs v)) [
      | no far ↦ outside j (inr (omega arith))
      | yes l ↦
          let k : ℕ = (j - at) / 32 in
          let r : ℕ = (j - at) % 32 in
          let is : j ≡ at + 32 * k + r = omega arith in
          let low : k < 8 * dirs v = omega arith in
          let small : r < 32 = omega arith in
          ap (byte v') is
          ∙ in_entry k r low small (λ u c. ⊎_elim (λ a. omega arith) (λ b. absurd (omega arith)) (f k low u c))
          ∙ ap (byte v) (sym is)
    ]
  ]
