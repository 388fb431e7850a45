-- Format, allocate and delete: what each keeps.
use mathlib.Core.Path.{◌≡◌, refl, ap, sym, ◌∙◌}
use mathlib.Core.Bool.{true, true≢false, false, not}
use mathlib.Core.List.{List, ◌∷◌}
use Prim.Native.Nat.{ℕ, suc}
use borrow.Author.Tests.{eq-eqb, not-true}
use Rattle.lists.specs.Parts.{sectors}
use Rattle.lists.specs.Lists.{index, all}
use Rattle.lists.proofs.Tests.{both_true}
use Rattle.lists.proofs.IndexFound.{none_all}
use Rattle.volume.specs.Names.{volume_id}
use Rattle.volume.specs.Volume.{in_range}
use Rattle.volume.specs.Formatted.{formatted}
use Rattle.volume.specs.Directory.{entries, entry_at, unused}
use Rattle.volume.specs.Sat.{lowest_run}
use Rattle.files.specs.Files.{sound}
use Rattle.files.specs.Changes.{taken, deleted}
use Rattle.files.proofs.allocation.Allocatable.{Allocatable, allocatable}
use Rattle.keeping.proofs.FormatSound.{format_sound, format_Bytes}
use Rattle.keeping.proofs.AllocateKeeps.{allocate_Changed, allocate_sound, allocate_Bytes}
use Rattle.keeping.proofs.DeleteKeeps.{delete_Changed, delete_sound, delete_Bytes}
use Rattle.luns.specs.declared.Lun.{Lun}
use Rattle.luns.specs.Luns.{holds_slot, is_held}
use Rattle.luns.proofs.Fitting.{fits_is}
use Rattle.work.specs.Volumes.{exists, sized, new_file, slot_of}
use Rattle.desk.specs.Desk.{state, empty_desk, State}
use Rattle.desk.specs.Calls.{everything, nothing, one_file}
use Rattle.desk.proofs.DeskFitting.{empty_Fitting}
use Rattle.promises.specs.Sectors.{Bytes, Good}
use Rattle.promises.specs.Touches.{changes, ends}
use Rattle.promises.proofs.Held.{Changed-Fitting, any_Lun, ready_sound, ready_Fitting}
use Rattle.promises.proofs.Told.{FormatTold, AllocateTold, DeleteTold}
use Rattle.promises.proofs.NamedFile.{file_there}
use Rattle.promises.proofs.Preserving.{remakes, Preserves, Preserves-change}

-- Format: nothing is kept, but what it leaves is good
pub Good-formatted : (id : List ℕ) (d t : ℕ) → volume_id id ≡ true → in_range t d ≡ true → Bytes id → Good (state (formatted id d t) empty_desk)
Good-formatted id d t hi hr b = record {
  volume = record { is_sound = format_sound id d t hi hr; is_bytes = format_Bytes id d t hi hr b };
  is_fitting = fits_is (formatted id d t) empty_desk.luns (empty_Fitting (formatted id d t));
}

pub Preserves-format : (id : List ℕ) (n : ℕ) (s : State) → FormatTold s id n → Preserves id everything s (state (formatted id n (sectors s.image)) empty_desk)
unfolding changes ends remakes
Preserves-format id n s T = record {
  sound_after = λ b h. (Good-formatted id n (sectors s.image) T.good_id T.in_range b).volume;
  good_after = λ b h. Good-formatted id n (sectors s.image) T.good_id T.in_range b;
  frame = λ h. absurd (true≢false h);
  others = λ k f h. absurd (true≢false h);
  units = λ k i f l h. absurd (true≢false h);
}

-- Allocate: the slot was unused, so that it held no file, and no LUN holds it
module _ (caller : ℕ) (desc : List ℕ) (k n l rc : ℕ) (s : State) (T : AllocateTold s caller desc k n l rc) where
  abbrev slot : ℕ
  slot = index unused (entries s.image)

  pub can_allocate : Allocatable s.image (index unused (entries s.image)) desc k n l rc (lowest_run (taken k n) s.image)
  unfolding exists sized
  can_allocate =
      allocatable s.image desc k n l rc (ready_sound s T.is_ready) T.entry_free T.described T.new_name T.kind_known T.sized_ok
      T.code_allowed T.run_free

  new_slot : (j : ℕ) → unused (entry_at s.image j) ≡ false → j ≡ slot → ⊥
  new_slot j u p = true≢false (sym can_allocate.slot_unused ∙ ap (λ (i : ℕ). unused (entry_at s.image i)) (sym p) ∙ u)

  Good-allocated : Bytes s.image → Bytes (rc ∷ desc) → Good (state (new_file s.image desc k n l rc) s.desk)
  unfolding new_file
  Good-allocated bi b = record {
    volume = record { is_sound = allocate_sound can_allocate; is_bytes = allocate_Bytes can_allocate bi (λ i. b (suc i)) (b 0) };
    is_fitting = fits_is _ _ (Changed-Fitting s.image _ slot _ _ (allocate_Changed can_allocate) s.desk.luns (λ u. true) (any_Lun s.desk.luns)
        (λ u h c o q. absurd (new_slot u.slot o.used q))
        (ready_Fitting s T.is_ready));
  }

  pub Preserves-allocate : Bytes s.image → Preserves (rc ∷ desc) nothing s (state (new_file s.image desc k n l rc) s.desk)
  unfolding new_file
  Preserves-allocate bi =
      Preserves-change s (state (new_file s.image desc k n l rc) s.desk) slot _ _ (allocate_Changed can_allocate) (rc ∷ desc) nothing (Good-allocated bi)
      (λ j f h. new_slot j f.used)
      (λ i f x h. absurd (new_slot slot f.used refl))

-- Delete: no LUN holds the slot
holds_it : (k : ℕ) (u : Lun) → u.held ≡ true → u.slot ≡ k → holds_slot k u ≡ true
unfolding holds_slot
holds_it k u h q = both_true _ _ h (eq-eqb _ _ q)

module _ (caller : ℕ) (desc : List ℕ) (s : State) (T : DeleteTold s caller desc) where
  abbrev v : List ℕ
  v = s.image

  abbrev at : ℕ
  at = slot_of v desc

  is_sound : sound v ≡ true
  is_sound = ready_sound s T.is_ready

  nobody : all (λ u. not (holds_slot at u)) s.desk.luns ≡ true
  unfolding is_held
  nobody = none_all (holds_slot at) s.desk.luns T.not_held

  Good-deleted : Bytes v → Good (state (deleted at v) s.desk)
  Good-deleted bi = record {
    volume = record { is_sound = delete_sound v at is_sound (file_there T.named_file); is_bytes = delete_Bytes v at is_sound (file_there T.named_file) bi };
    is_fitting = fits_is _ _ (Changed-Fitting v _ at _ _ (delete_Changed v at is_sound (file_there T.named_file)) s.desk.luns (λ u. not (holds_slot at u)) nobody
        (λ u h c o q. absurd (true≢false (sym (holds_it at u h q) ∙ not-true _ c)))
        (ready_Fitting s T.is_ready));
  }

  pub Preserves-delete : Bytes s.image → Preserves desc (one_file (slot_of s.image desc)) s (state (deleted (slot_of s.image desc) s.image) s.desk)
  unfolding changes ends
  Preserves-delete bi =
      Preserves-change s (state (deleted at v) s.desk) at _ _ (delete_Changed v at is_sound (file_there T.named_file)) desc (one_file at) (λ b. Good-deleted bi)
      (λ j f h p. true≢false (sym (eq-eqb at j (sym p)) ∙ h))
      (λ i f x h. absurd (true≢false (sym (eq-eqb at at refl) ∙ h)))
