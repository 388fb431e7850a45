-- Twelve bytes of the form stand for a plain LUN, which packs into them.
use mathlib.Core.Path.{◌≡◌, refl, sym, ap, ◌∙◌}
use mathlib.Core.Bool.{Bool, true, false, not, true≢false}
use mathlib.Core.List.{List, ◌∷◌, map}
use Prim.Native.Nat.{ℕ, zero, suc, ◌+◌, ◌*◌, ◌/◌, ◌%◌, ◌<◌, ◌≤◌}
use native.Mathlib.Omega.{arith}
use native.Mathlib.Nat.{mul-add-div, mul-add-mod_self_left, div-eq_of_lt, mod-eq_of_lt}
use lib.Dec.{eqb}
use lib.ListN.{length, replicate, drop, drop_of_length-le}
use lib.Seq.{drop-cons}
use borrow.Author.Tests.{eqb-true, eqb-false, eq-eqb, leb-true}
use Rattle.lists.specs.Lists.{range}
use Rattle.lists.specs.Parts.{byte, word, long, blanks, zeros}
use Rattle.lists.proofs.AreBytes.{Bytes}
use Rattle.lists.proofs.Tests.{and_left, and_right, or_cases, zeros_are}
use Rattle.luns.specs.declared.Place.{Place}
use Rattle.luns.specs.declared.Place.TheVariants.{Fresh, At}
use Rattle.luns.specs.Luns.{free_lun}
use Rattle.luns.specs.Modes.{mode_of, mode_number}
use Rattle.deskbytes.specs.DeskBytes.{lun_bytes, count_of, first_of, packed_lun, lun_form, place_in, unpacked_lun, PlainPlace, PlainLun}

-- the n bytes from i on, one by one
listed : (b : List ℕ) (i n : ℕ) → length b ≡ i + n → drop i b ≡ map (byte b) (range i n)
unfolding range
listed b i zero h = let l : length b ≤ i = omega arith in drop_of_length-le b l
listed b i (suc n) h = drop-cons b i 0 (omega arith) ∙ ap (λ (l : List ℕ). byte b i ∷ l) (listed b (suc i) n (omega arith))

mode_kept : (k : ℕ) → k ≤ 7 → mode_number (mode_of k) ≡ k
unfolding mode_of
mode_kept zero h = refl
mode_kept (suc zero) h = refl
mode_kept (suc (suc zero)) h = refl
mode_kept (suc (suc (suc zero))) h = refl
mode_kept (suc (suc (suc (suc zero)))) h = refl
mode_kept (suc (suc (suc (suc (suc zero))))) h = refl
mode_kept (suc (suc (suc (suc (suc (suc zero)))))) h = refl
mode_kept (suc (suc (suc (suc (suc (suc (suc zero))))))) h = refl
mode_kept (suc (suc (suc (suc (suc (suc (suc (suc k)))))))) h = absurd (omega arith)

-- the higher and the lower digit of a number to the base m
high : (m x y : ℕ) → y < m → (m * x + y) / m ≡ x
high m x y h = let z : 0 < m = omega arith in mul-add-div z x y ∙ rw (div-eq_of_lt h) (omega arith)

low : (m x y : ℕ) → y < m → (m * x + y) % m ≡ y
low m x y h = mul-add-mod_self_left m x y ∙ mod-eq_of_lt h

-- what the tests say of bytes that are not all zero
record HeldForm (b : List ℕ) : Type 0 where
  one : byte b 0 ≡ 1
  mode_known : byte b 1 ≤ 7
  gap : byte b 7 ≡ 0
  place_known : byte b 5 ≡ 0 → long b 8 ≡ 0

held_form : (b : List ℕ) → zeros b ≡ false → lun_form b ≡ true → HeldForm b
unfolding lun_form
held_form b z e =
    let all = or_cases _ _ e z in
    let three = and_left _ _ all in
    let two = and_left _ _ three in
    record {
      one = eqb-true (byte b 0) 1 (and_left _ _ two);
      mode_known = leb-true (byte b 1) 7 (and_right _ _ two);
      gap = eqb-true (byte b 7) 0 (and_right _ _ three);
      place_known = λ q. eqb-true (long b 8) 0 (or_cases _ _ (and_right _ _ all) (ap not (eq-eqb (byte b 5) 0 q)));
    }

-- a place is Fresh or At, not both
abbrev stands : Place → Bool
stands Fresh = false
stands (At i n) = true

fresh_plain : (i n : ℕ) → Fresh ≡ At i n → PlainPlace i n
fresh_plain i n e = absurd (true≢false (ap stands (sym e)))

pub free_plain : PlainLun free_lun
unfolding free_lun
free_plain = record { free_is_empty = λ e. refl; user_fits = omega arith; slot_fits = omega arith; code_fits = omega arith; place_plain = fresh_plain }

all_zero : (b : List ℕ) → length b ≡ lun_bytes → zeros b ≡ true → b ≡ blanks lun_bytes
unfolding blanks
all_zero b h z = zeros_are b z ∙ ap (λ (n : ℕ). replicate n 0) h

free_back : packed_lun (unpacked_lun (blanks lun_bytes)) ≡ blanks lun_bytes
unfolding packed_lun unpacked_lun free_lun blanks
free_back = refl

free_is : unpacked_lun (blanks lun_bytes) ≡ free_lun
unfolding unpacked_lun blanks
free_is = refl

module _ (b : List ℕ) (twelve : length b ≡ lun_bytes) (bytes : Bytes b) (form : HeldForm b) where
  held_is : unpacked_lun b ≡ record { held = true; user = word b 2; slot = byte b 4; mode = mode_of (byte b 1); offered = byte b 6; place = place_in b }
  unfolding unpacked_lun
  held_is = rw form.one

  place_kept : (count_of (place_in b) ≡ byte b 5) × (first_of (place_in b) ≡ long b 8)
  unfolding place_in
  place_kept = by (eqb (byte b 5) 0) refl
    where
      by : (t : Bool) → eqb (byte b 5) 0 ≡ t → (count_of (place_in b) ≡ byte b 5) × (first_of (place_in b) ≡ long b 8)
      by true e = let z : byte b 5 ≡ 0 = eqb-true (byte b 5) 0 e in rw e (sym z, sym (form.place_known z))
      by false e = rw e (refl, refl)

  word_below : (i : ℕ) → word b i < 65536
  word_below i = omega (arith, bytes i, bytes (i + 1))

  i_below : long b 8 < 4294967296
  i_below = omega (arith, word_below 8, word_below 10)

  held_kept : packed_lun (unpacked_lun b) ≡ b
  unfolding packed_lun range
  held_kept =
      let user : word b 2 % 65536 ≡ word b 2 = omega (arith, word_below 2) in
      let slot : byte b 4 % 256 ≡ byte b 4 = omega (arith, bytes 4) in
      let n : byte b 5 % 256 ≡ byte b 5 = omega (arith, bytes 5) in
      let code : byte b 6 % 256 ≡ byte b 6 = omega (arith, bytes 6) in
      let i : long b 8 % 4294967296 ≡ long b 8 = omega (arith, i_below) in
      rw (
        held_is,
        user,
        slot,
        place_kept.0,
        n,
        code,
        place_kept.1,
        i,
        mode_kept (byte b 1) form.mode_known,
        high 65536 (word b 8) (word b 10) (word_below 10),
        low 65536 (word b 8) (word b 10) (word_below 10),
        high 256 (byte b 2) (byte b 3) (bytes 3),
        low 256 (byte b 2) (byte b 3) (bytes 3),
        high 256 (byte b 8) (byte b 9) (bytes 9),
        low 256 (byte b 8) (byte b 9) (bytes 9),
        high 256 (byte b 10) (byte b 11) (bytes 11),
        low 256 (byte b 10) (byte b 11) (bytes 11),
      )
      (sym (listed b 0 lun_bytes twelve ∙ rw (form.one, form.gap)))

  place_plain_in : (i n : ℕ) → place_in b ≡ At i n → PlainPlace i n
  unfolding place_in
  place_plain_in i n e = by (eqb (byte b 5) 0) refl
    where
      by : (t : Bool) → eqb (byte b 5) 0 ≡ t → PlainPlace i n
      by true z = fresh_plain i n (sym (rw z refl) ∙ e)
      by false z =
          let q : At (long b 8) (byte b 5) ≡ At i n = sym (rw z refl) ∙ e in
          let ei : long b 8 ≡ i = ap first_of q in
          let en : byte b 5 ≡ n = ap count_of q in
          let ne : byte b 5 ≡ 0 → ⊥ = eqb-false (byte b 5) 0 z in
          record { some_moved = omega arith; n_fits = omega (arith, bytes 5); i_fits = omega (arith, i_below) }

  held_plain : PlainLun (unpacked_lun b)
  held_plain =
      rw held_is
      (record { free_is_empty = λ e. absurd (true≢false e); user_fits = word_below 2; slot_fits = bytes 4; code_fits = bytes 6; place_plain = place_plain_in })

module _ (b : List ℕ) (twelve : length b ≡ lun_bytes) (bytes : Bytes b) (form : lun_form b ≡ true) where
  pub lun_kept : packed_lun (unpacked_lun b) ≡ b
  lun_kept = by (zeros b) refl
    where
      by : (t : Bool) → zeros b ≡ t → packed_lun (unpacked_lun b) ≡ b
      by true z = let e : b ≡ blanks lun_bytes = all_zero b twelve z in rw e free_back
      by false z = held_kept b twelve bytes (held_form b z form)

  pub lun_plain : PlainLun (unpacked_lun b)
  lun_plain = by (zeros b) refl
    where
      by : (t : Bool) → zeros b ≡ t → PlainLun (unpacked_lun b)
      by true z = let e : b ≡ blanks lun_bytes = all_zero b twelve z in rw (e, free_is) free_plain
      by false z = held_plain b twelve bytes (held_form b z form)
