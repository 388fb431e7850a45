-- The slots in use as the code lists them: their entries are those that are in use, and what holds of unused entries anyway is judged by them.
use mathlib.Core.Bool.{Bool, true, false, not}
use mathlib.Core.List.{List, [], ◌∷◌, ◌++◌}
use mathlib.Core.Path.{◌≡◌, refl, ap, sym, ◌∙◌}
use Prim.Native.Nat.{ℕ, zero, suc, ◌+◌, ◌*◌, ◌≤◌, ◌<◌}
use native.Mathlib.Nat.{add-zero, zero-add}
use native.Mathlib.Numerals.{add-one}
use native.Mathlib.Omega.{arith}
use lib.ListN.{length, get_or, drop, drop_of_length-le}
use lib.Seq.{drop-cons}
use Rattle.numbers.specs.Numbers.{most_dirs}
use Rattle.lists.specs.Lists.{all, kept, flat, ◌and◌}
use Rattle.volume.specs.Directory.{entries, entry_at, unused, names_differ, clashes}
use Rattle.volume.specs.Volume.{dirs}
use Rattle.volume.specs.Code.Used.{places_from, used_slots, used_entries}
use Rattle.volume.proofs.clashes.EntryClashes.{unused_after}
use Rattle.volume.proofs.clashes.NamesDiffer.{unused-alone}
use Rattle.volume.specs.Code.Located.{Located}
use Rattle.volume.specs.declared.locate.Layout.{Layout}
use Rattle.volume.proofs.Slots.{length-entries}

abbrev in_use : List ℕ → Bool
in_use e = not (unused e)

-- one entry, in use or not
module _ (k : ℕ) (e : List ℕ) (es : List (List ℕ)) where
  places_used : unused e ≡ false → places_from k (e ∷ es) ≡ k ∷ places_from (suc k) es
  unfolding places_from
  places_used u = rw (places_from, u)

  places_unused : unused e ≡ true → places_from k (e ∷ es) ≡ places_from (suc k) es
  unfolding places_from
  places_unused u = rw (places_from, u)

  kept_used : unused e ≡ false → kept in_use (e ∷ es) ≡ e ∷ kept in_use es
  unfolding kept
  kept_used u = rw (kept, u)

  kept-unused : unused e ≡ true → kept in_use (e ∷ es) ≡ kept in_use es
  unfolding kept
  kept-unused u = rw (kept, u)

-- the list from slot k on, where that one is in use, and where some slots from it on are not
module _ (es : List (List ℕ)) (k : ℕ) where
  pub places_one : k < length es → unused (get_or es k []) ≡ false → places_from k (drop k es) ≡ (k ∷ []) ++ places_from (k + 1) (drop (k + 1) es)
  places_one h u = rw (drop-cons es k [] h, places_used k (get_or es k []) (drop (suc k) es) u, add-one k)

pub places_gap : (es : List (List ℕ)) (n k : ℕ) → k + n ≤ length es → ((i : ℕ) → i < n → unused (get_or es (k + i) []) ≡ true)
    → places_from k (drop k es) ≡ places_from (k + n) (drop (k + n) es)
places_gap es zero k h u = rw (add-zero k)
places_gap es (suc n) k h u =
    let e : k + suc n ≡ suc k + n = omega arith in
    let u0 : unused (get_or es k []) ≡ true = rw (add-zero k) at (u 0 (omega arith)) in
    ap (places_from k) (drop-cons es k [] (omega arith)) ∙ places_unused k (get_or es k []) (drop (suc k) es) u0
    ∙ places_gap es n (suc k) (omega arith) (λ i g. ap (λ (j : ℕ). unused (get_or es j [])) (omega arith) ∙ u (suc i) (omega arith))
    ∙ ap (λ (j : ℕ). places_from j (drop j es)) (sym e)

pub places_end : (es : List (List ℕ)) (k : ℕ) → length es ≤ k → places_from k (drop k es) ≡ []
unfolding places_from
places_end es k h = rw (drop_of_length-le es h)

-- as many slots as entries in use, each in range; and the entry of each
length_places : (k : ℕ) (es : List (List ℕ)) → length (places_from k es) ≡ length (kept in_use es)
unfolding places_from kept
length_places k [] = refl
length_places k (e ∷ es) = go (unused e) refl (length_places (suc k) es)
  where
    go : (b : Bool) → unused e ≡ b → length (places_from (suc k) es) ≡ length (kept in_use es) → length (places_from k (e ∷ es)) ≡ length (kept in_use (e ∷ es))
    go true u r = rw (places_unused k e es u, kept-unused k e es u) r
    go false u r = rw (places_used k e es u, kept_used k e es u) (ap suc r)

few_places : (k : ℕ) (es : List (List ℕ)) → length (places_from k es) ≤ length es
unfolding places_from
few_places k [] = omega arith
few_places k (e ∷ es) = go (unused e) refl (few_places (suc k) es)
  where
    go : (b : Bool) → unused e ≡ b → length (places_from (suc k) es) ≤ length es → length (places_from k (e ∷ es)) ≤ suc (length es)
    go true u r = rw (places_unused k e es u) (omega (arith, r))
    go false u r = rw (places_used k e es u) (omega (arith, r))

place_below : (k : ℕ) (es : List (List ℕ)) (i : ℕ) → i < length (places_from k es) → get_or (places_from k es) i 0 < k + length es
unfolding places_from
place_below k [] i h = absurd (omega arith)
place_below k (e ∷ es) i h = go (unused e) refl (λ j g. place_below (suc k) es j g) i h
  where
    go : (b : Bool) → unused e ≡ b → ((j : ℕ) → j < length (places_from (suc k) es) → get_or (places_from (suc k) es) j 0 < suc k + length es) → (i : ℕ)
        → i < length (places_from k (e ∷ es)) → get_or (places_from k (e ∷ es)) i 0 < k + suc (length es)
    go true u r i h = rw (places_unused k e es u) (omega (arith, r i (rw (places_unused k e es u) at h)))
    go false u r zero h = rw (places_used k e es u) (omega arith)
    go false u r (suc i) h =
        let g : suc i < suc (length (places_from (suc k) es)) = rw (places_used k e es u) at h in
        rw (places_used k e es u) (omega (arith, r i (omega arith)))

entry_placed : (xs : List (List ℕ)) (k : ℕ) (es : List (List ℕ)) → ((j : ℕ) → get_or es j [] ≡ get_or xs (k + j) []) → (i : ℕ) → i < length (places_from k es)
    → get_or xs (get_or (places_from k es) i 0) [] ≡ get_or (kept in_use es) i []
unfolding places_from
entry_placed xs k [] f i h = absurd (omega arith)
entry_placed xs k (e ∷ es) f i h =
    go (unused e) refl (λ j g. entry_placed xs (suc k) es (λ n. f (suc n) ∙ ap (λ (m : ℕ). get_or xs m []) (omega arith)) j g) i h
  where
    go : (b : Bool) → unused e ≡ b
        → ((j : ℕ) → j < length (places_from (suc k) es) → get_or xs (get_or (places_from (suc k) es) j 0) [] ≡ get_or (kept in_use es) j []) → (i : ℕ)
        → i < length (places_from k (e ∷ es)) → get_or xs (get_or (places_from k (e ∷ es)) i 0) [] ≡ get_or (kept in_use (e ∷ es)) i []
    go true u r i h = rw (places_unused k e es u, kept-unused k e es u) (r i (rw (places_unused k e es u) at h))
    go false u r zero h = rw (places_used k e es u, kept_used k e es u) (sym (f 0 ∙ ap (λ (n : ℕ). get_or xs n []) (add-zero k)))
    go false u r (suc i) h =
        let g : suc i < suc (length (places_from (suc k) es)) = rw (places_used k e es u) at h in
        rw (places_used k e es u, kept_used k e es u) (r i (omega arith))

module _ (img : List ℕ) where
  pub length_used : length (used_slots img) ≡ length (used_entries img)
  unfolding used_slots used_entries
  length_used = length_places 0 (entries img)

  pub few_used : length (used_slots img) ≤ 8 * dirs img
  unfolding used_slots
  few_used = omega (arith, few_places 0 (entries img), length-entries img)

  module _ (i : ℕ) (h : i < length (used_slots img)) where
    pub used_below : get_or (used_slots img) i 0 < 8 * dirs img
    unfolding used_slots
    used_below = omega (arith, place_below 0 (entries img) i h, length-entries img)

    pub used_entry : entry_at img (get_or (used_slots img) i 0) ≡ get_or (used_entries img) i []
    unfolding used_slots used_entries entry_at
    used_entry = entry_placed (entries img) 0 (entries img) (λ j. ap (λ (n : ℕ). get_or (entries img) n []) (sym (zero-add j))) i h

used_at : (es : List (List ℕ)) (i : ℕ) → i < length (kept in_use es) → unused (get_or (kept in_use es) i []) ≡ false
unfolding kept
used_at [] i h = absurd (omega arith)
used_at (e ∷ es) i h = go (unused e) refl (λ j g. used_at es j g) i h
  where
    go : (b : Bool) → unused e ≡ b → ((j : ℕ) → j < length (kept in_use es) → unused (get_or (kept in_use es) j []) ≡ false) → (i : ℕ)
        → i < length (kept in_use (e ∷ es)) → unused (get_or (kept in_use (e ∷ es)) i []) ≡ false
    go true u r i h = rw (kept-unused 0 e es u) (r i (rw (kept-unused 0 e es u) at h))
    go false u r zero h = rw (kept_used 0 e es u) u
    go false u r (suc i) h =
        let g : suc i < suc (length (kept in_use es)) = rw (kept_used 0 e es u) at h in
        rw (kept_used 0 e es u) (r i (omega arith))

-- what is known of the i-th of them, where `used` lists the slots
module _ (img : List ℕ) (p : Layout) (l : Located img p) (used : List ℕ) (is : used ≡ used_slots img) (i : ℕ) (h : i < length used) where
  pub listed_below : get_or used i 0 < 8 * p.dirs
  listed_below = rw is (omega (arith, used_below img i (rw is at h), l.is_dirs))

  pub listed_entry : entry_at img (get_or used i 0) ≡ get_or (used_entries img) i []
  listed_entry = rw is (used_entry img i (rw is at h))

  pub listed_few : i < length (used_entries img)
  listed_few = omega (arith, length_used img, ap length is)

  pub listed_used : unused (get_or (used_entries img) i []) ≡ false
  unfolding used_entries
  listed_used = used_at (entries img) i listed_few

-- no more than a directory has
pub listed_most : (img : List ℕ) (p : Layout) → Located img p → (used : List ℕ) → used ≡ used_slots img → length used ≤ 8 * most_dirs
listed_most img p l used is = omega (arith, ap length is, few_used img, l.is_dirs, l.few_dirs)

-- the list ends where the entries do
pub listed_length : (img used : List ℕ) → used ≡ used_slots img → length used ≡ length (used_entries img)
listed_length img used is = ap length is ∙ length_used img

-- tests, lists and names, by the entries in use alone
pub all_used : (p : List ℕ → Bool) (es : List (List ℕ)) → ((e : List ℕ) → unused e ≡ true → p e ≡ true) → all p es ≡ all p (kept in_use es)
unfolding all kept
all_used p [] f = refl
all_used p (e ∷ es) f = go (unused e) refl (all_used p es f)
  where
    go : (b : Bool) → unused e ≡ b → all p es ≡ all p (kept in_use es) → p e and all p es ≡ all p (kept in_use (e ∷ es))
    go true u r = rw (kept-unused 0 e es u, f e u) (unfold ◌and◌ in r)
    go false u r = rw (kept_used 0 e es u) (ap (λ (b : Bool). p e and b) r)

pub flat_used : (f : List ℕ → List ℕ) (es : List (List ℕ)) → ((e : List ℕ) → unused e ≡ true → f e ≡ []) → flat f es ≡ flat f (kept in_use es)
unfolding flat kept
flat_used f [] g = refl
flat_used f (e ∷ es) g = go (unused e) refl (flat_used f es g)
  where
    go : (b : Bool) → unused e ≡ b → flat f es ≡ flat f (kept in_use es) → f e ++ flat f es ≡ flat f (kept in_use (e ∷ es))
    go true u r = rw (kept-unused 0 e es u, g e u) r
    go false u r = rw (kept_used 0 e es u) (ap (λ (l : List ℕ). f e ++ l) r)

pub names_used : (es : List (List ℕ)) → names_differ es ≡ names_differ (kept in_use es)
unfolding names_differ kept
names_used [] = refl
names_used (e ∷ es) = go (unused e) refl (names_used es)
  where
    go : (b : Bool) → unused e ≡ b → names_differ es ≡ names_differ (kept in_use es)
        → all (λ d. not (clashes e d)) es and names_differ es ≡ names_differ (kept in_use (e ∷ es))
    go true u r = rw (kept-unused 0 e es u, unused-alone e es u) (unfold ◌and◌ in r)
    go false u r =
        rw (kept_used 0 e es u)
        (ap (λ (b : Bool). b and names_differ es) (all_used (λ d. not (clashes e d)) es (λ d z. unused_after e d z))
        ∙ ap (λ (b : Bool). all (λ d. not (clashes e d)) (kept in_use es) and b) r)
