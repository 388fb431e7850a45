-- Sixteen plain LUNs packed: 192 bytes in form, which are read back as those LUNs.
use mathlib.Core.Path.{◌≡◌, refl, sym, ap, ◌∙◌}
use mathlib.Core.Bool.{true}
use mathlib.Core.List.{List, [], ◌∷◌, map}
use Prim.Native.Nat.{ℕ, suc, ◌*◌}
use lib.ListN.{length, get_or}
use borrow.Author.Tests.{eq-eqb}
use Rattle.numbers.specs.Numbers.{lun_count}
use Rattle.lists.specs.Lists.{all, flat, pieces}
use Rattle.lists.proofs.AreBytes.{Bytes}
use Rattle.lists.proofs.ByteLists.{Bytes-flat}
use Rattle.lists.proofs.Lists.{all-nil, all-cons}
use Rattle.lists.proofs.Pieces.{length-flat, pieces-flat}
use Rattle.lists.proofs.Tests.{both_true}
use Rattle.luns.specs.declared.Lun.{Lun}
use Rattle.luns.specs.Luns.{free_lun}
use Rattle.deskbytes.specs.DeskBytes.{lun_bytes, desk_size, packed_lun, packed_luns, lun_form, desk_form, unpacked_lun, unpacked_luns, PlainLun, PlainLuns}
use Rattle.deskbytes.proofs.LunBytes.{length-packed_lun}
use Rattle.deskbytes.proofs.PackedLun.{Bytes-packed_lun, lun_back, lun_form_lem}

-- the pieces are the LUNs' bytes
packed_pieces : (us : List Lun) → length us ≡ lun_count → pieces lun_count lun_bytes (packed_luns us) ≡ map packed_lun us
unfolding packed_luns
packed_pieces us n = ap (λ (k : ℕ). pieces k lun_bytes (flat packed_lun us)) (sym n)
    ∙ pieces-flat lun_bytes packed_lun free_lun us (λ i l. length-packed_lun (get_or us i free_lun))

each_back : (us : List Lun) → ((k : ℕ) → PlainLun (get_or us k free_lun)) → map unpacked_lun (map packed_lun us) ≡ us
each_back [] h = refl
each_back (u ∷ us) h = rw (lun_back u (h 0), each_back us (λ k. h (suc k)))

each_form : (us : List Lun) → ((k : ℕ) → PlainLun (get_or us k free_lun)) → all lun_form (map packed_lun us) ≡ true
each_form [] h = all-nil lun_form
each_form (u ∷ us) h = all-cons lun_form (packed_lun u) (map packed_lun us) (lun_form_lem u (h 0)) (each_form us (λ k. h (suc k)))

pub packed_back : (us : List Lun) → PlainLuns us → unpacked_luns (packed_luns us) ≡ us
unfolding unpacked_luns
packed_back us h = rw (packed_pieces us h.sixteen) (each_back us h.each_plain)

pub length_packed : (us : List Lun) → length us ≡ lun_count → length (packed_luns us) ≡ desk_size
unfolding packed_luns
length_packed us n = length-flat lun_bytes packed_lun free_lun us (λ i l. length-packed_lun (get_or us i free_lun)) ∙ ap (λ (k : ℕ). lun_bytes * k) n

pub packed_form : (us : List Lun) → PlainLuns us → desk_form (packed_luns us) ≡ true
unfolding desk_form
packed_form us h =
    both_true _ _ (eq-eqb (length (packed_luns us)) desk_size (length_packed us h.sixteen)) (ap (all lun_form) (packed_pieces us h.sixteen) ∙ each_form us h.each_plain)

pub packed_luns_one_one : (us vs : List Lun) → PlainLuns us → PlainLuns vs → packed_luns us ≡ packed_luns vs → us ≡ vs
packed_luns_one_one us vs hu hv e = sym (packed_back us hu) ∙ ap unpacked_luns e ∙ packed_back vs hv

pub Bytes-packed_luns : (us : List Lun) → Bytes (packed_luns us)
unfolding packed_luns
Bytes-packed_luns us = Bytes-flat packed_lun us free_lun (λ i l. Bytes-packed_lun (get_or us i free_lun))
