-- Bytes in form are 192 and stand for sixteen plain LUNs, which pack into them.
use mathlib.Core.Path.{◌≡◌, refl, ◌∙◌}
use mathlib.Core.Bool.{true}
use mathlib.Core.List.{List, [], ◌∷◌, map}
use Prim.Native.Nat.{ℕ, zero, suc, ◌*◌}
use native.Mathlib.Omega.{arith}
use lib.ListN.{length, length-map, length-take, length-drop, get_or, replicate, take, drop, take-append-drop}
use borrow.Author.Tests.{eqb-true}
use Rattle.numbers.specs.Numbers.{lun_count}
use Rattle.lists.specs.Lists.{all, flat, pieces}
use Rattle.lists.proofs.AreBytes.{Bytes}
use Rattle.lists.proofs.ByteLists.{Bytes-take, Bytes-drop}
use Rattle.lists.proofs.Pieces.{length-pieces}
use Rattle.lists.proofs.Tests.{and_left, and_right}
use Rattle.luns.specs.Luns.{free_lun}
use Rattle.deskbytes.specs.DeskBytes.{lun_bytes, desk_size, packed_lun, packed_luns, lun_form, desk_form, unpacked_lun, unpacked_luns, PlainLun, PlainLuns}
use Rattle.deskbytes.proofs.UnpackedLun.{lun_kept, lun_plain, free_plain}

-- of n LUNs' bytes, the first LUN's and the others'
first_long : (n : ℕ) (bs : List ℕ) → length bs ≡ lun_bytes * suc n → length (take lun_bytes bs) ≡ lun_bytes
first_long n bs h = simp length-take (omega arith)

rest_long : (n : ℕ) (bs : List ℕ) → length bs ≡ lun_bytes * suc n → length (drop lun_bytes bs) ≡ lun_bytes * n
rest_long n bs h = simp length-drop (omega arith)

each_kept : (n : ℕ) (bs : List ℕ) → Bytes bs → length bs ≡ lun_bytes * n → all lun_form (pieces n lun_bytes bs) ≡ true → flat packed_lun (map unpacked_lun (pieces n lun_bytes bs)) ≡ bs
unfolding all flat pieces
each_kept zero [] b h f = refl
each_kept zero (x ∷ bs) b h f = absurd (omega arith)
each_kept (suc n) bs b h f =
    rw (
      lun_kept (take lun_bytes bs) (first_long n bs h) (Bytes-take lun_bytes bs b) (and_left _ _ f),
      each_kept n (drop lun_bytes bs) (Bytes-drop lun_bytes bs b) (rest_long n bs h) (and_right _ _ f),
    )
    (take-append-drop lun_bytes bs)

each_plain : (n : ℕ) (bs : List ℕ) → Bytes bs → length bs ≡ lun_bytes * n → all lun_form (pieces n lun_bytes bs) ≡ true
    → (k : ℕ) → PlainLun (get_or (map unpacked_lun (pieces n lun_bytes bs)) k free_lun)
unfolding all pieces
each_plain zero bs b h f k = free_plain
each_plain (suc n) bs b h f zero = lun_plain (take lun_bytes bs) (first_long n bs h) (Bytes-take lun_bytes bs b) (and_left _ _ f)
each_plain (suc n) bs b h f (suc k) = each_plain n (drop lun_bytes bs) (Bytes-drop lun_bytes bs b) (rest_long n bs h) (and_right _ _ f) k

pub form_length : (bs : List ℕ) → desk_form bs ≡ true → length bs ≡ desk_size
unfolding desk_form
form_length bs f = eqb-true (length bs) desk_size (and_left _ _ f)

form_each : (bs : List ℕ) → desk_form bs ≡ true → all lun_form (pieces lun_count lun_bytes bs) ≡ true
unfolding desk_form
form_each bs f = and_right _ _ f

pub length_unpacked : (bs : List ℕ) → length (unpacked_luns bs) ≡ lun_count
unfolding unpacked_luns
length_unpacked bs = length-map (pieces lun_count lun_bytes bs) unpacked_lun ∙ length-pieces lun_count lun_bytes bs

-- zeros are sixteen free LUNs
pub unpacked_zeros : unpacked_luns (replicate desk_size 0) ≡ replicate lun_count free_lun
unfolding unpacked_luns unpacked_lun pieces
unpacked_zeros = refl

pub unpacked_back : (bs : List ℕ) → Bytes bs → desk_form bs ≡ true → packed_luns (unpacked_luns bs) ≡ bs
unfolding packed_luns unpacked_luns
unpacked_back bs b f = each_kept lun_count bs b (form_length bs f) (form_each bs f)

pub unpacked_plain : (bs : List ℕ) → Bytes bs → desk_form bs ≡ true → PlainLuns (unpacked_luns bs)
unfolding unpacked_luns
unpacked_plain bs b f = record { sixteen = length_unpacked bs; each_plain = each_plain lun_count bs b (form_length bs f) (form_each bs f) }
