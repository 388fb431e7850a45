-- A plain LUN's twelve bytes are bytes, have the form, and are read back as that LUN.
use Rattle.std.specs.Prelude.{if◌then◌else◌}
use mathlib.Core.Path.{◌≡◌, refl, ap, ◌∙◌}
use mathlib.Core.Bool.{Bool, true, false, not}
use mathlib.Core.List.{◌∷◌, ◌++◌}
use Prim.Native.Nat.{ℕ, ◌+◌, ◌*◌, ◌/◌, ◌%◌, ◌<◌, ◌≤◌}
use native.Mathlib.Omega.{arith}
use lib.Dec.{eqb}
use borrow.Author.Tests.{ne_eqb, le-leb}
use Rattle.lists.specs.Lists.{◌or◌}
use Rattle.lists.specs.Parts.{bytes2, bytes4, blanks, long}
use Rattle.lists.proofs.AreBytes.{Bytes}
use Rattle.lists.proofs.ByteLists.{Bytes-cons, Bytes-append, Bytes-bytes2, Bytes-blanks}
use Rattle.lists.proofs.LentParts.{word_back}
use Rattle.lists.proofs.Tests.{both_true, or_first, or_second, zeros-blanks}
use Rattle.luns.specs.declared.Lun.{Lun}
use Rattle.luns.specs.declared.Mode.{Mode}
use Rattle.luns.specs.declared.Mode.TheVariants.{Pr, Er, Pw, Ew, Prpw, Prew, Erpw, Erew}
use Rattle.luns.specs.declared.Place.{Place}
use Rattle.luns.specs.declared.Place.TheVariants.{Fresh, At}
use Rattle.luns.specs.Luns.{free_lun}
use Rattle.luns.specs.Modes.{mode_of, mode_number}
use Rattle.deskbytes.specs.DeskBytes.{lun_bytes, count_of, first_of, packed_lun, lun_form, place_in, unpacked_lun, PlainPlace, PlainLun}
use Rattle.deskbytes.proofs.LunBytes.{packed_free}

Mode-back : (m : Mode) → mode_of (mode_number m) ≡ m
unfolding mode_of
Mode-back Pr = refl
Mode-back Er = refl
Mode-back Pw = refl
Mode-back Ew = refl
Mode-back Prpw = refl
Mode-back Prew = refl
Mode-back Erpw = refl
Mode-back Erew = refl

Mode-below : (m : Mode) → mode_number m ≤ 7
Mode-below Pr = omega arith
Mode-below Er = omega arith
Mode-below Pw = omega arith
Mode-below Ew = omega arith
Mode-below Prpw = omega arith
Mode-below Prew = omega arith
Mode-below Erpw = omega arith
Mode-below Erew = omega arith

long_back : (v : ℕ) → long (bytes4 v) 0 ≡ v
long_back v = rw (word_back (v / 65536), word_back (v % 65536)) (omega arith)

Bytes-bytes4 : (v : ℕ) → v < 4294967296 → Bytes (bytes4 v)
Bytes-bytes4 v h = Bytes-append (bytes2 (v / 65536)) (bytes2 (v % 65536)) (Bytes-bytes2 (v / 65536) (omega arith)) (Bytes-bytes2 (v % 65536) (omega arith))

Bytes-held : (mode user slot n code i : ℕ) → mode ≤ 7 → user < 65536 → slot < 256 → n < 256 → code < 256 → i < 4294967296
    → Bytes (1 ∷ mode ∷ (bytes2 user ++ (slot ∷ n ∷ code ∷ 0 ∷ bytes4 i)))
Bytes-held mode user slot n code i hm hu hs hn hc hi =
    let last : Bytes (code ∷ 0 ∷ bytes4 i) = Bytes-cons code (0 ∷ bytes4 i) hc (Bytes-cons 0 (bytes4 i) (omega arith) (Bytes-bytes4 i hi)) in
    let rest : Bytes (slot ∷ n ∷ code ∷ 0 ∷ bytes4 i) = Bytes-cons slot (n ∷ code ∷ 0 ∷ bytes4 i) hs (Bytes-cons n (code ∷ 0 ∷ bytes4 i) hn last) in
    let all : Bytes (bytes2 user ++ (slot ∷ n ∷ code ∷ 0 ∷ bytes4 i)) = Bytes-append (bytes2 user) (slot ∷ n ∷ code ∷ 0 ∷ bytes4 i) (Bytes-bytes2 user hu) rest in
    Bytes-cons 1 (mode ∷ (bytes2 user ++ (slot ∷ n ∷ code ∷ 0 ∷ bytes4 i))) (omega arith)
    (Bytes-cons mode (bytes2 user ++ (slot ∷ n ∷ code ∷ 0 ∷ bytes4 i)) (omega arith) all)

pub Bytes-packed_lun : (u : Lun) → Bytes (packed_lun u)
unfolding packed_lun
Bytes-packed_lun u = by u.held refl
  where
    by : (b : Bool) → u.held ≡ b → Bytes (packed_lun u)
    by true e =
        rw e
        (Bytes-held (mode_number u.mode) (u.user % 65536) (u.slot % 256) (count_of u.place % 256) (u.offered % 256) (first_of u.place % 4294967296)
        (Mode-below u.mode) (omega arith) (omega arith) (omega arith) (omega arith) (omega arith))
    by false e = rw e (Bytes-blanks lun_bytes)

-- the place's numbers fit their bytes, and n tells whether there is one
Place-back : (p : Place) → ((i n : ℕ) → p ≡ At i n → PlainPlace i n)
    → (if eqb (count_of p % 256) 0 then Fresh else At (first_of p % 4294967296) (count_of p % 256)) ≡ p
Place-back Fresh h = refl
Place-back (At i n) h =
    let q : PlainPlace i n = h i n refl in
    let ei : i % 4294967296 ≡ i = omega (arith, q.i_fits) in
    let en : n % 256 ≡ n = omega (arith, q.n_fits) in
    let ne : eqb n 0 ≡ false = ne_eqb n 0 (λ e. omega (arith, q.some_moved)) in
    rw (ei, en, ne)

Place-form : (p : Place) → ((i n : ℕ) → p ≡ At i n → PlainPlace i n) → (not (eqb (count_of p % 256) 0) or eqb (first_of p % 4294967296) 0) ≡ true
Place-form Fresh h = or_second _ _ refl
Place-form (At i n) h =
    let q : PlainPlace i n = h i n refl in
    or_first _ _ (ap not (ne_eqb (n % 256) 0 (λ e. omega (arith, q.some_moved, q.n_fits))))

free_form : lun_form (blanks lun_bytes) ≡ true
unfolding lun_form
free_form = or_first _ _ (zeros-blanks lun_bytes)

module _ (u : Lun) (plain : PlainLun u) where
  held_back : u.held ≡ true → unpacked_lun (packed_lun u) ≡ u
  unfolding packed_lun unpacked_lun place_in
  held_back e =
      let i : ℕ = first_of u.place % 4294967296 in
      let n : ℕ = count_of u.place % 256 in
      let user : 256 * (u.user % 65536 / 256) + u.user % 65536 % 256 ≡ u.user = word_back (u.user % 65536) ∙ omega (arith, plain.user_fits) in
      let slot : u.slot % 256 ≡ u.slot = omega (arith, plain.slot_fits) in
      let code : u.offered % 256 ≡ u.offered = omega (arith, plain.code_fits) in
      let place : (if eqb n 0 then Fresh else At (long (bytes4 i) 0) n) ≡ u.place =
      ap (λ (j : ℕ). if eqb n 0 then Fresh else At j n) (long_back i) ∙ Place-back u.place plain.place_plain in
      rw e (λ t. record { held = true; user = user t; slot = slot t; mode = Mode-back u.mode t; offered = code t; place = place t })

  pub lun_back : unpacked_lun (packed_lun u) ≡ u
  unfolding packed_lun unpacked_lun free_lun blanks
  lun_back = by u.held refl
    where
      by : (b : Bool) → u.held ≡ b → unpacked_lun (packed_lun u) ≡ u
      by true e = held_back e
      by false e = let f : u ≡ free_lun = plain.free_is_empty e in rw f refl

  held_form : u.held ≡ true → lun_form (packed_lun u) ≡ true
  unfolding packed_lun lun_form
  held_form e =
      rw e
      (or_second _ _
      (both_true _ _
      (both_true _ _ (both_true _ _ refl (le-leb (mode_number u.mode) 7 (Mode-below u.mode))) refl)
      (ap (λ (j : ℕ). not (eqb (count_of u.place % 256) 0) or eqb j 0) (long_back (first_of u.place % 4294967296)) ∙ Place-form u.place plain.place_plain)))

  pub lun_form_lem : lun_form (packed_lun u) ≡ true
  lun_form_lem = by u.held refl
    where
      by : (b : Bool) → u.held ≡ b → lun_form (packed_lun u) ≡ true
      by true e = held_form e
      by false e = ap lun_form (packed_free u e) ∙ free_form
