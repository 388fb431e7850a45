-- What a search of the directory found.
use Rattle.std.specs.Prelude.{if◌then◌else◌}
use mathlib.Core.Path.{◌≡◌, refl, sym, ap}
use mathlib.Core.Bool.{Bool, true, false, not}
use mathlib.Core.List.{List}
use Prim.Native.Nat.{ℕ, ◌*◌, ◌≤◌, ◌<◌}
use native.Mathlib.Omega.{arith}
use lib.Dec.{ltb}
use borrow.Author.Tests.{ltb-true, ltb-false}
use Rattle.lists.specs.Lists.{some, index}
use Rattle.lists.proofs.IndexFound.{index-some, some-index}
use Rattle.lists.proofs.Tests.{is_false}
use Rattle.std.specs.Prelude.{Option, Some, None, is_some, ok_or, Ok, Err}
use Rattle.volume.specs.Directory.{entries}
use Rattle.volume.specs.Code.Located.{Located}
use Rattle.volume.specs.Code.Found.{found_of}
use Rattle.volume.specs.declared.locate.Layout.{Layout}
use Rattle.volume.proofs.Slots.{length-entries}

at_place : (b : Bool) (k slot : ℕ) → (if b then Some k else None) ≡ Some slot → (b ≡ true) × (k ≡ slot)
at_place true k slot e = (refl, cc)
at_place false k slot e = let z : ◌≡◌ {A = ℕ} 0 1 = cc in absurd (omega arith)

at_none : (b : Bool) (k : ℕ) → (if b then Some k else None) ≡ None → b ≡ false
at_none true k e = let z : ◌≡◌ {A = ℕ} 0 1 = cc in absurd (omega arith)
at_none false k e = refl

module _ (img : List ℕ) (p : Layout) (l : Located img p) (q : List ℕ → Bool) where
  pub none_found : found_of (8 * p.dirs) (index q (entries img)) ≡ None → some q (entries img) ≡ false
  unfolding found_of
  none_found e =
      let h : 8 * p.dirs ≤ index q (entries img) = ltb-false _ _ (at_none _ _ e) in
      is_false (some q (entries img)) (λ s. omega (arith, some-index q (entries img) s, length-entries img, l.is_dirs))

  module _ (slot : ℕ) (e : found_of (8 * p.dirs) (index q (entries img)) ≡ Some slot) where
    pub found_slot : index q (entries img) ≡ slot
    unfolding found_of
    found_slot = (at_place (ltb (index q (entries img)) (8 * p.dirs)) _ slot e).1

    pub some_found : some q (entries img) ≡ true
    unfolding found_of
    some_found =
        let low : index q (entries img) < 8 * p.dirs = ltb-true _ _ (at_place (ltb (index q (entries img)) (8 * p.dirs)) _ slot e).0 in
        index-some q (entries img) (omega (arith, low, length-entries img, l.is_dirs))

  -- that something was found, and the slot
  pub is_some_found : is_some (found_of (8 * p.dirs) (index q (entries img))) ≡ some q (entries img)
  is_some_found = go (found_of (8 * p.dirs) (index q (entries img))) refl
    where
      go : (o : Option ℕ) → found_of (8 * p.dirs) (index q (entries img)) ≡ o → is_some o ≡ some q (entries img)
      go None e = sym (none_found e)
      go (Some slot) e = sym (some_found slot e)

  pub ok_or_found : {E : Type 0} (why : E) → ok_or (found_of (8 * p.dirs) (index q (entries img))) why ≡ (if not (some q (entries img)) then Err why else Ok (index q (entries img)))
  ok_or_found {E = E} why = go (found_of (8 * p.dirs) (index q (entries img))) refl
    where
      go : (o : Option ℕ) → found_of (8 * p.dirs) (index q (entries img)) ≡ o → ok_or o why ≡ (if not (some q (entries img)) then Err why else Ok (index q (entries img)))
      go None e = rw (none_found e) refl
      go (Some slot) e = rw (some_found slot e) (ap Ok (sym (found_slot slot e)))
