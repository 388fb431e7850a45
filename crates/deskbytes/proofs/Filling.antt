-- A list filled from the front, one element's bytes or one element at a time; and the pieces that the code takes.
use mathlib.Core.Path.{◌≡◌, refl, sym, ap, ◌∙◌}
use mathlib.Core.List.{List, [], ◌∷◌, ◌++◌, map, map-append, append_assoc, append-nil}
use Prim.Native.Nat.{ℕ, zero, suc, ◌+◌, ◌*◌, ◌<◌, ◌≤◌, ◌/◌}
use native.Mathlib.Omega.{arith}
use native.Mathlib.Numerals.{add-one}
use native.Mathlib.Nat.{mul-suc}
use lib.ListN.{length, get_or, take, drop, set, length-append}
use lib.Seq.{take_at, take-suc, take-suc-set, length-take-le}
use Rattle.std.specs.Simd.{first_chunks}
use Rattle.numbers.specs.Numbers.{lun_count}
use Rattle.lists.specs.Lists.{flat, pieces}
use Rattle.lists.specs.Parts.{put}
use Rattle.deskbytes.specs.DeskBytes.{lun_bytes, desk_size}
use Rattle.lists.proofs.Lists.{flat-append}

take-put : (i : ℕ) (b l : List ℕ) → i ≤ length l → take (i + length b) (put i b l) ≡ take i l ++ b
unfolding put
take-put i b l h =
    ap (take (i + length b)) (sym (append_assoc (take i l) b (drop (i + length b) l)))
    ∙ take_at (take i l ++ b) (drop (i + length b) l) (i + length b) (length-append (take i l) b ∙ ap (λ (n : ℕ). n + length b) (length-take-le i l h))

module _ {A : Type 0} (f : A → List ℕ) where
  flat_more : (xs : List A) (k : ℕ) (d : A) → k < length xs → flat f (take (k + 1) xs) ≡ flat f (take k xs) ++ f (get_or xs k d)
  unfolding flat
  flat_more xs k d h = rw (add-one, take-suc xs k d h, flat-append f (take k xs) (get_or xs k d ∷ [])) (ap (λ (l : List ℕ). flat f (take k xs) ++ l) (append-nil (f (get_or xs k d))))

  -- the bytes of element k, written behind those of the elements before it
  pub flat-put : (w : ℕ) (xs : List A) (k : ℕ) (d : A) (out : List ℕ) → k < length xs → length (f (get_or xs k d)) ≡ w → w * k ≤ length out
      → take (w * k) out ≡ flat f (take k xs) → take (w * (k + 1)) (put (w * k) (f (get_or xs k d)) out) ≡ flat f (take (k + 1) xs)
  flat-put w xs k d out h e fits inv =
      let n : w * (k + 1) ≡ w * k + length (f (get_or xs k d)) = rw (add-one, mul-suc) (omega (arith, e)) in
      rw n (take-put (w * k) (f (get_or xs k d)) out fits ∙ rw inv (sym (flat_more xs k d h)))

-- element k, set behind those before it
pub map-set : {A B : Type 0} (f : A → B) (xs : List A) (k : ℕ) (d : A) (out : List B) (y : B) → k < length xs → k < length out → y ≡ f (get_or xs k d)
    → take k out ≡ map f (take k xs) → take (k + 1) (set out k y) ≡ map f (take (k + 1) xs)
map-set f xs k d out y h g e inv =
    rw (add-one, take-suc-set out k y g, take-suc xs k d h, inv, e) (sym (map-append f (take k xs) (get_or xs k d ∷ [])))

-- the pieces, as the code takes them
pub first_chunks_pieces : (w n : ℕ) (l : List ℕ) → first_chunks w n l ≡ pieces n w l
unfolding pieces
first_chunks_pieces w zero l = refl
first_chunks_pieces w (suc n) l = ap (λ (ps : List (List ℕ)). take w l ∷ ps) (first_chunks_pieces w n (drop w l))

-- of 192 bytes there are sixteen
pub chunks_are : (bs : List ℕ) (cs : List (List ℕ)) → length bs ≡ desk_size → cs ≡ first_chunks lun_bytes (length bs / lun_bytes) bs → cs ≡ pieces lun_count lun_bytes bs
chunks_are bs cs h e =
    let k : length bs / lun_bytes ≡ lun_count = omega arith in
    e ∙ ap (λ (n : ℕ). first_chunks lun_bytes n bs) k ∙ first_chunks_pieces lun_bytes lun_count bs
