-- The letter of a sector, as the code finds it: by the layout, the SAT and the table of holders.
use Rattle.std.specs.Prelude.{if◌then◌else◌}
use mathlib.Core.Path.{◌≡◌, refl, sym, ap, ◌∙◌}
use mathlib.Core.Logic.{inl, inr}
use mathlib.Core.Bool.{Bool, true, false, not, ◌||◌, true≢false}
use mathlib.Core.List.{List}
use Prim.Native.Nat.{ℕ, ◌+◌, ◌-◌, ◌*◌, ◌<◌, ◌≤◌}
use native.Mathlib.Omega.{arith}
use lib.Dec.{eqb, leb, ltb}
use borrow.Author.Tests.{leb-true, leb-false, ltb-true, ltb-false, eqb-true, eqb-false, eq-eqb, ne_eqb}
use Rattle.lists.specs.Lists.{◌or◌, ◌and◌, range, some, among}
use Rattle.lists.proofs.Tests.{is_false}
use Rattle.lists.proofs.Keeps.{range_out}
use Rattle.lists.proofs.RangeParts.{among-range}
use Rattle.volume.specs.declared.locate.Layout.{Layout}
use Rattle.volume.specs.Volume.{sat, system, system_of}
use Rattle.volume.specs.Directory.{entries}
use Rattle.volume.specs.Sat.{marked, is_free}
use Rattle.volume.specs.Code.Located.{Located}
use Rattle.volume.proofs.Located.{Layout-is}
use Rattle.compaction.specs.Compaction.{holds_data, holder_of}
use Rattle.compaction.proofs.DataSectors.{Holder-found, holder_none}
use Rattle.picture.specs.Picture.{slot_letter, is_block, sector_letter}

-- the system's sectors, by their numbers
range_test : (x i n : ℕ) → among x (range i n) ≡ leb i x and ltb x (i + n)
unfolding ◌and◌
range_test x i n = by (leb i x) (ltb x (i + n)) refl refl
  where
    by : (a b : Bool) → leb i x ≡ a → ltb x (i + n) ≡ b → among x (range i n) ≡ leb i x and ltb x (i + n)
    by true true p q = rw (p, q) (range_out x i n (leb-true _ _ p) (ltb-true _ _ q))
    by true false p q = rw (p, q) (among-range x i n (inr (ltb-false _ _ q)))
    by false b p q = rw p (among-range x i n (inl (leb-false _ _ p)))

or_right_first : (a b c d : Bool) → a or b or c or d ≡ a or (b or (c or d))
unfolding ◌or◌
or_right_first true b c d = refl
or_right_first false true c d = refl
or_right_first false false c d = refl

pub system_test : (p : Layout) (x : ℕ) → eqb x 0 or eqb x p.sat or eqb x (p.t - 1) or (leb p.dir x and ltb x (p.dir + p.dirs)) ≡ among x (system_of p)
unfolding system_of among
system_test p x = rw (range_test x p.dir p.dirs) (or_right_first (eqb x 0) (eqb x p.sat) (eqb x (p.t - 1)) _)

flip : (a b : ℕ) → eqb a b ≡ eqb b a
flip a b = by (eqb a b) refl
  where
    by : (t : Bool) → eqb a b ≡ t → t ≡ eqb b a
    by true e = sym (eq-eqb b a (sym (eqb-true a b e)))
    by false e = sym (ne_eqb b a (λ z. eqb-false a b e (sym z)))

one_of : (a b c d : Bool) → a || (b || (c || false)) ≡ true → true ≡ a or b or c or d
unfolding ◌or◌
one_of true b c d h = refl
one_of false true c d h = refl
one_of false false true d h = refl
one_of false false false d h = absurd (true≢false (sym h))

none_of : (a b c d : Bool) → a || (b || (c || false)) ≡ false → d ≡ a or b or c or d
unfolding ◌or◌
none_of true b c d h = absurd (true≢false h)
none_of false true c d h = absurd (true≢false h)
none_of false false true d h = absurd (true≢false h)
none_of false false false d h = refl

-- the first three, and then the directory's
module _ (p : Layout) (x : ℕ) (u : Bool) (is : u ≡ eqb 0 x || (eqb p.sat x || (eqb (p.t - 1) x || false))) where
  tested : eqb x 0 || (eqb x p.sat || (eqb x (p.t - 1) || false)) ≡ u
  tested = rw (flip x 0, flip x p.sat, flip x (p.t - 1)) (sym is)

  pub system_first : u ≡ true → u ≡ among x (system_of p)
  system_first h = h ∙ one_of _ _ _ _ (tested ∙ h) ∙ system_test p x

  pub system_rest : u ≡ false → (d : Bool) → d ≡ leb p.dir x and ltb x (p.dir + p.dirs) → d ≡ among x (system_of p)
  system_rest h d q = q ∙ none_of _ _ _ _ (tested ∙ h) ∙ system_test p x

-- the tests in the code's order, each by what the code found before it, and the letter at each end
module _ (img : List ℕ) (p : Layout) (L : Located img p) (x : ℕ) where
  system_at : among x (system_of p) ≡ among x (system img)
  unfolding system
  system_at = ap (λ (q : Layout). among x (system_of q)) (Layout-is img p L)

  free_at : (b : List ℕ) → b ≡ sat img → not (marked b x) ≡ is_free (sat img) x
  unfolding is_free
  free_at b e = rw e

  -- a slot is a file's exactly where the sector holds data
  held_slot : holder_of img x < 8 * p.dirs → holds_data img x ≡ true
  held_slot l = by (holds_data img x) refl
    where
      by : (b : Bool) → holds_data img x ≡ b → holds_data img x ≡ true
      by true h = h
      by false h = absurd (omega (arith, holder_none img x h, L.is_dirs))

  held_none : 8 * p.dirs ≤ holder_of img x → holds_data img x ≡ false
  held_none l = is_false _ (λ h. let s = (Holder-found img x h).slot in omega (arith, L.is_dirs))

  module _ {its : Bool} (i : its ≡ among x (system_of p)) where
    pub letter_system : its ≡ true → 35 ≡ sector_letter img x
    unfolding sector_letter
    letter_system e = rw (sym system_at ∙ sym i ∙ e)

    module _ (e : its ≡ false) {b : List ℕ} (s : b ≡ sat img) {mark : Bool} (m : mark ≡ marked b x) where
      outside : among x (system img) ≡ false
      outside = sym system_at ∙ sym i ∙ e

      free_is : {f : Bool} → not mark ≡ f → is_free (sat img) x ≡ f
      free_is n = sym (free_at b s) ∙ sym (ap not m) ∙ n

      pub letter_free : not mark ≡ true → 46 ≡ sector_letter img x
      unfolding sector_letter
      letter_free n = rw (outside, free_is n)

      module _ (n : not mark ≡ false) {k : ℕ} (h : k ≡ holder_of img x) where
        pub letter_data : k < 8 * p.dirs → slot_letter k ≡ sector_letter img x
        unfolding sector_letter
        letter_data l = rw (outside, free_is n, held_slot (omega arith), h)

        pub letter_rest : 8 * p.dirs ≤ k → {a : Bool} → a ≡ some (is_block x) (entries img) → (if a then 64 else 61) ≡ sector_letter img x
        unfolding sector_letter
        letter_rest l q = rw (outside, free_is n, held_none (omega arith), q)
