-- Which names are found after an allocate and a delete: the new one in its slot, the deleted one no more, every other as before.
use mathlib.Core.Path.{◌≡◌, refl, ap, sym, ◌∙◌}
use mathlib.Core.Bool.{Bool, true, false, not, true≢false}
use mathlib.Core.List.{List, [], ◌∷◌}
use mathlib.Core.Logic.{◌≢◌}
use Prim.Native.Nat.{ℕ, zero, suc, ◌*◌, ◌<◌}
use native.Mathlib.Nat.{not-suc-le-zero, le_of_suc-le-suc}
use native.Mathlib.Omega.{arith}
use lib.ListN.{length, get_or, set}
use borrow.Author.Tests.{not-true}
use Rattle.lists.specs.Lists.{◌or◌, all, some, index}
use Rattle.lists.specs.Parts.{blanks}
use Rattle.lists.proofs.Tests.{and_left, and_right, or_first, or_second, or_left, or_right, not_both, is_false, zeros-blanks}
use Rattle.lists.proofs.Lists.{same-true, same_refl, all_at}
use Rattle.lists.proofs.IndexFound.{index_here, index_later}
use Rattle.volume.specs.Names.{descriptor}
use Rattle.volume.specs.Volume.{dirs}
use Rattle.volume.specs.Directory.{entries, entry_at, unused, described, named, clashes, names_differ, entry, fields}
use Rattle.volume.proofs.EntryFields.{descriptor-length, entry-described}
use Rattle.volume.proofs.clashes.NamesDiffer.{clash_named}
use Rattle.volume.proofs.Slots.{length-entries}
use Rattle.files.specs.Files.{sound}
use Rattle.files.specs.Changes.{allocated, deleted}
use Rattle.files.proofs.SoundFacts.{facts}
use Rattle.files.proofs.slot.UsedSlots.{named_used}
use Rattle.files.proofs.allocation.Allocatable.{Allocatable}
use Rattle.keeping.proofs.DeleteKeeps.{delete_Changed}
use Rattle.keeping.proofs.AllocateKeeps.{allocate_Changed}

-- searches of a list with one element replaced
module _ {A : Type 0} (p : A → Bool) where
  -- by one that passes, where none did
  set_found : (xs : List A) (k : ℕ) (e : A) → k < length xs → some p xs ≡ false → p e ≡ true → (some p (set xs k e) ≡ true) × (index p (set xs k e) ≡ k)
  unfolding some
  set_found [] k e h n y = absurd (not-suc-le-zero h)
  set_found (x ∷ xs) zero e h n y = (or_first _ _ y, index_here p e xs y)
  set_found (x ∷ xs) (suc k) e h n y =
      let r = set_found xs k e (le_of_suc-le-suc h) (or_right _ _ n) y in
      (or_second _ _ r.0, index_later p x (set xs k e) (or_left _ _ n) ∙ ap suc r.1)

  -- by one at which the test says the same
  set_same : (xs : List A) (k : ℕ) (d e : A) → p e ≡ p (get_or xs k d) → (some p (set xs k e) ≡ some p xs) × (index p (set xs k e) ≡ index p xs)
  unfolding some index
  set_same [] k d e q = (refl, refl)
  set_same (x ∷ xs) zero d e q = (ap (λ (c : Bool). c or some p xs) q, rw (index, q))
  set_same (x ∷ xs) (suc k) d e q =
      let r = set_same xs k d e q in
      (ap (λ (c : Bool). p x or c) r.0, by (p x) refl r.1)
    where
      by : (c : Bool) → p x ≡ c → index p (set xs k e) ≡ index p xs → index p (x ∷ set xs k e) ≡ index p (x ∷ xs)
      by true w r = rw (index, w)
      by false w r = rw (index, w) (ap suc r)

-- the name that an entry has
named_is : (d e : List ℕ) → named d e ≡ true → d ≡ described e
unfolding named
named_is d e m = same-true d (described e) m

module _ (d : List ℕ) (hd : descriptor d ≡ true) where
  -- a descriptor is not the name of an unused entry
  unused_unnamed : (e : List ℕ) → unused e ≡ true → named d e ≡ false
  unused_unnamed e u = is_false (named d e) (λ m. true≢false (sym u ∙ named_used d e hd m))

  -- two entries that have it clash
  both_clash : (x y : List ℕ) → named d x ≡ true → named d y ≡ true → clashes x y ≡ true
  both_clash x y mx my =
      let same_name : named (described x) y ≡ true = ap (λ (q : List ℕ). named q y) (sym (named_is d x mx)) ∙ my in
      clash_named x y (named_used d x hd mx) same_name ∙ ap not (named_used d y hd my)

  -- so once the entry that has it is replaced, none has
  none_named : (x : List ℕ) (xs : List (List ℕ)) → named d x ≡ true → all (λ y. not (clashes x y)) xs ≡ true → some (named d) xs ≡ false
  unfolding some all
  none_named x [] m h = refl
  none_named x (y ∷ xs) m h =
      not_both _ _ (is_false (named d y) (λ n. true≢false (sym (both_clash x y m n) ∙ not-true _ (and_left _ _ h)))) (none_named x xs m (and_right _ _ h))

  set_lost : (xs : List (List ℕ)) (k : ℕ) (z e : List ℕ) → k < length xs → names_differ xs ≡ true → named d (get_or xs k z) ≡ true → named d e ≡ false
      → some (named d) (set xs k e) ≡ false
  unfolding some names_differ
  set_lost [] k z e h n m q = absurd (not-suc-le-zero h)
  set_lost (x ∷ xs) zero z e h n m q = not_both _ _ q (none_named x xs m (and_left _ _ n))
  set_lost (x ∷ xs) (suc k) z e h n m q =
      let apart : clashes x (get_or xs k z) ≡ false = not-true _ (all_at (λ y. not (clashes x y)) xs k z (and_left _ _ n) (le_of_suc-le-suc h)) in
      not_both _ _ (is_false (named d x) (λ w. true≢false (sym (both_clash x (get_or xs k z) w m) ∙ apart))) (set_lost xs k z e (le_of_suc-le-suc h) (and_right _ _ n) m q)

module _ {v : List ℕ} {at : ℕ} {d : List ℕ} {k n l rc s : ℕ} (A : Allocatable v at d k n l rc s) where
  e' : List ℕ
  e' = entry (fields k d rc l s n)

  now : entries (allocated at d k n l rc s v) ≡ set (entries v) at e'
  unfolding e'
  now = (allocate_Changed A).entries_are

  called : described e' ≡ d
  unfolding e'
  called = entry-described (fields k d rc l s n) (descriptor-length d A.well_described)

  -- the new file is found by its descriptor, in its slot; every other name is found as before
  pub allocate_found : (some (named d) (entries (allocated at d k n l rc s v)) ≡ true) × (index (named d) (entries (allocated at d k n l rc s v)) ≡ at)
  unfolding named
  allocate_found =
      rw now (set_found (named d) (entries v) at e' (omega (arith, length-entries v, A.slot_in)) A.new_name (rw called (same_refl d)))

  pub allocate_names : (d' : List ℕ) → descriptor d' ≡ true → d' ≢ d
      → (some (named d') (entries (allocated at d k n l rc s v)) ≡ some (named d') (entries v))
      × (index (named d') (entries (allocated at d k n l rc s v)) ≡ index (named d') (entries v))
  allocate_names d' hd h =
      rw now
      (set_same (named d') (entries v) at [] e' (is_false (named d' e') (λ m. h (named_is d' e' m ∙ called))
      ∙ sym (unfold entry_at in unused_unnamed d' hd (entry_at v at) A.slot_unused)))

module _ (v : List ℕ) (k : ℕ) (s : sound v ≡ true) (hk : k < 8 * dirs v) where
  gone : entries (deleted k v) ≡ set (entries v) k (blanks 32)
  gone = (delete_Changed v k s hk).entries_are

  -- a deleted name is found no more; every other is found as before
  pub delete_lost : (d : List ℕ) → descriptor d ≡ true → named d (entry_at v k) ≡ true → some (named d) (entries (deleted k v)) ≡ false
  unfolding entry_at
  delete_lost d hd m =
      rw gone
      (set_lost d hd (entries v) k [] (blanks 32) (omega (arith, length-entries v)) (facts v s).names m (unused_unnamed d hd (blanks 32) (zeros-blanks 32)))

  pub delete_names : (d' : List ℕ) → descriptor d' ≡ true → named d' (entry_at v k) ≡ false
      → (some (named d') (entries (deleted k v)) ≡ some (named d') (entries v)) × (index (named d') (entries (deleted k v)) ≡ index (named d') (entries v))
  unfolding entry_at
  delete_names d' hd m = rw gone (set_same (named d') (entries v) k [] (blanks 32) (unused_unnamed d' hd (blanks 32) (zeros-blanks 32) ∙ sym m))
