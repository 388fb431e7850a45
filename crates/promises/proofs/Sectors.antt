-- Demand 3 of one sound volume: where logical sectors lead, and which sectors are marked.
use Rattle.std.specs.Prelude.{if◌then◌else◌}
use mathlib.Core.Path.{◌≡◌, refl, ap, sym, ◌∙◌}
use mathlib.Core.Bool.{true, true≢false, Bool, false}
use mathlib.Core.List.{List, [], ◌∷◌}
use mathlib.Core.Logic.{◌≢◌}
use Prim.Native.Nat.{ℕ, zero, suc, ◌<◌}
use native.Mathlib.Nat.{not-suc-le-zero, le_of_suc-le-suc}
use native.Mathlib.Decide.{ℕ_discrete}
use lib.ListN.{length, get_or}
use borrow.Author.Tests.{eq-eqb, not-true}
use Rattle.lists.specs.Lists.{among, distinct}
use Rattle.lists.specs.Parts.{sectors}
use Rattle.lists.proofs.Tests.{or_first, or_second, and_left, and_right}
use Rattle.volume.specs.Directory.{unused, contiguous, start, entry_at}
use Rattle.lists.proofs.Members.{among_at}
use Rattle.volume.specs.Volume.{system}
use Rattle.volume.specs.Sat.{owns, marked}
use Rattle.volume.proofs.Bits.{marked-sat_of}
use Rattle.ownership.specs.Owners.{logical, owned, all_owned}
use Rattle.files.proofs.SoundFacts.{Facts, facts}
use Rattle.files.proofs.OwnersApart.{clear_at, slots_apart, system_apart}
use Rattle.files.proofs.SequentialFile.{owned-distinct, fab_apart}
use Rattle.files.specs.Files.{sound}
use Rattle.promises.specs.Sectors.{File, leads_to, HasSector, NoSystemSector, OneSectorEach, NoAccessBlock, MarkedExactly, SoundInOrder}

-- in a list without repeats an element has one place
one_place : (xs : List ℕ) (a b : ℕ) → distinct xs ≡ true → a < length xs → b < length xs → get_or xs a 0 ≡ get_or xs b 0 → a ≡ b
unfolding distinct
one_place [] a b d ha hb e = absurd (not-suc-le-zero ha)
one_place (x ∷ xs) zero zero d ha hb e = refl
one_place (x ∷ xs) zero (suc b) d ha hb e =
    absurd (true≢false (sym (among_at xs b (le_of_suc-le-suc hb)) ∙ ap (λ (y : ℕ). among y xs) (sym e) ∙ not-true _ (and_left _ _ d)))
one_place (x ∷ xs) (suc a) zero d ha hb e =
    absurd (true≢false (sym (among_at xs a (le_of_suc-le-suc ha)) ∙ ap (λ (y : ℕ). among y xs) e ∙ not-true _ (and_left _ _ d)))
one_place (x ∷ xs) (suc a) (suc b) d ha hb e = ap suc (one_place xs a b (and_right _ _ d) (le_of_suc-le-suc ha) (le_of_suc-le-suc hb) e)

later : (u x : ℕ) (xs : List ℕ) → among u xs ≡ true → among u (x ∷ xs) ≡ true
unfolding among
later u x xs m = or_second _ _ m

-- a used entry owns its logical sectors
owns_logical : (v e : List ℕ) (u : ℕ) → unused e ≡ false → among u (logical v e) ≡ true → among u (owned v e) ≡ true
unfolding owned
owns_logical v e u n m = go (contiguous e) refl
  where
    go : (b : Bool) → contiguous e ≡ b → among u (if unused e then [] else (if contiguous e then logical v e else start e ∷ logical v e)) ≡ true
    go true q = rw (n, q) m
    go false q = rw (n, q) (later u (start e) (logical v e) m)

owned-start : (v e : List ℕ) → unused e ≡ false → contiguous e ≡ false → among (start e) (owned v e) ≡ true
unfolding owned among
owned-start v e n q = rw (n, q) (or_first _ _ (eq-eqb (start e) (start e) refl))

logical-distinct : (v e : List ℕ) → unused e ≡ false → distinct (owned v e) ≡ true → distinct (logical v e) ≡ true
unfolding owned distinct
logical-distinct v e n d = go (contiguous e) refl
  where
    go : (b : Bool) → contiguous e ≡ b → distinct (logical v e) ≡ true
    go true q = rw (n, q) at d
    go false q = and_right _ _ (rw (n, q) at d)

module _ (v : List ℕ) (h : sound v ≡ true) where
  F : Facts v
  F = facts v h

  -- a logical sector is among those that its file owns
  led : (k a : ℕ) → File v k → HasSector v k a → among (leads_to v k a) (owned v (entry_at v k)) ≡ true
  led k a f h = owns_logical v (entry_at v k) _ f.used (among_at (logical v (entry_at v k)) a h)

  -- and of no other file
  not_led : (j k a : ℕ) → File v j → File v k → j ≢ k → HasSector v j a → among (leads_to v j a) (owned v (entry_at v k)) ≡ false
  not_led j k a fj fk n h = clear_at (owned v (entry_at v k)) (owned v (entry_at v j)) _ (slots_apart v F j k fj.slot fk.slot n) (led j a fj h)

  no_system_sector : NoSystemSector v
  no_system_sector k a f h = clear_at (system v) (owned v (entry_at v k)) _ (system_apart v F k f.slot) (led k a f h)

  one_sector_each : OneSectorEach v
  one_sector_each j k a b fj fk hj hk e = elim (ℕ_discrete j k) [
    | yes q ↦
        let d = logical-distinct v (entry_at v k) fk.used (owned-distinct v F k fk.slot) in
        let same : leads_to v k a ≡ leads_to v k b = ap (λ (x : ℕ). leads_to v x a) (sym q) ∙ e in
        (q, one_place (logical v (entry_at v k)) a b d (rw q at hj) hk same)
    | no n ↦
        let mine : among (leads_to v j a) (owned v (entry_at v k)) ≡ true = ap (λ (x : ℕ). among x (owned v (entry_at v k))) e ∙ led k b fk hk in
        absurd (true≢false (sym mine ∙ not_led j k a fj fk n hj))
  ]

  no_access_block : NoAccessBlock v
  no_access_block j k a fj fk q h e = elim (ℕ_discrete k j) [
    | yes p ↦
        let here : among (leads_to v k a) (logical v (entry_at v k)) ≡ true = among_at (logical v (entry_at v k)) a h in
        let block : among (start (entry_at v j)) (logical v (entry_at v j)) ≡ true =
        rw (ap (λ (x : ℕ). logical v (entry_at v x)) p) at (rw e at here) in
        true≢false (sym block ∙ fab_apart v F j fj.slot fj.used q)
    | no n ↦
        let its : among (leads_to v k a) (owned v (entry_at v j)) ≡ true =
        ap (λ (x : ℕ). among x (owned v (entry_at v j))) e ∙ owned-start v (entry_at v j) fj.used q in
        true≢false (sym its ∙ not_led k j a fk fj n h)
  ]

  marked_exactly : MarkedExactly v
  unfolding owns
  marked_exactly x l = ap (λ (b : List ℕ). marked b x) F.sat_right ∙ marked-sat_of (sectors v) (all_owned v) x l

pub in_order : SoundInOrder
in_order v h = record {
  one_sector_each = one_sector_each v h;
  no_system_sector = no_system_sector v h;
  no_access_block = no_access_block v h;
  marked_exactly = marked_exactly v h;
}
