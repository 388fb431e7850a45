-- Bytes below 256 stay so: parts, joins and what is written of them.
use mathlib.Core.List.{[], List, ◌∷◌, ◌++◌}
use Prim.Native.Nat.{ℕ, zero, suc, ◌<◌, ◌+◌, ◌/◌, ◌%◌, ◌-◌, ◌*◌}
use native.Mathlib.Omega.{arith}
use lib.ListN.{take, drop, length, get_or, replicate}
use lib.Seq.{get_or-drop}
use Rattle.lists.specs.Lists.{flat}
use Rattle.lists.specs.Parts.{blanks, bytes2, filled, part, sector, put, put_sector}
use Rattle.lists.proofs.AreBytes.{Bytes}

pub Bytes-nil : Bytes []
Bytes-nil i = omega arith

pub Bytes-cons : (x : ℕ) (l : List ℕ) → x < 256 → Bytes l → Bytes (x ∷ l)
Bytes-cons x l h b zero = h
Bytes-cons x l h b (suc i) = b i

pub Bytes-append : (a b : List ℕ) → Bytes a → Bytes b → Bytes (a ++ b)
Bytes-append [] b ha hb = hb
Bytes-append (x ∷ a) b ha hb = Bytes-cons x (a ++ b) (ha 0) (Bytes-append a b (λ i. ha (suc i)) hb)

pub Bytes-take : (n : ℕ) (l : List ℕ) → Bytes l → Bytes (take n l)
Bytes-take zero l h = Bytes-nil
Bytes-take (suc n) [] h = Bytes-nil
Bytes-take (suc n) (x ∷ l) h = Bytes-cons x (take n l) (h 0) (Bytes-take n l (λ i. h (suc i)))

pub Bytes-drop : (n : ℕ) (l : List ℕ) → Bytes l → Bytes (drop n l)
Bytes-drop n l h i = rw (get_or-drop n l i 0) (h (n + i))

pub Bytes-replicate : (n x : ℕ) → x < 256 → Bytes (replicate n x)
Bytes-replicate zero x h = Bytes-nil
Bytes-replicate (suc n) x h = Bytes-cons x (replicate n x) h (Bytes-replicate n x h)

pub Bytes-blanks : (n : ℕ) → Bytes (blanks n)
unfolding blanks
Bytes-blanks n = Bytes-replicate n 0 (omega arith)

pub Bytes-bytes2 : (w : ℕ) → w < 65536 → Bytes (bytes2 w)
Bytes-bytes2 w h = Bytes-cons (w / 256) (w % 256 ∷ []) (omega arith) (Bytes-cons (w % 256) [] (omega arith) Bytes-nil)

pub Bytes-filled : (n : ℕ) (b : List ℕ) → Bytes b → Bytes (filled n b)
unfolding filled
Bytes-filled n b h = Bytes-append b (blanks (n - length b)) h (Bytes-blanks (n - length b))

pub Bytes-part : (i n : ℕ) (l : List ℕ) → Bytes l → Bytes (part i n l)
unfolding part
Bytes-part i n l h = Bytes-take n (drop i l) (Bytes-drop i l h)

pub Bytes-sector : (s : ℕ) (l : List ℕ) → Bytes l → Bytes (sector s l)
unfolding sector
Bytes-sector s l h = Bytes-part (256 * s) 256 l h

pub Bytes-put : (i : ℕ) (b l : List ℕ) → Bytes b → Bytes l → Bytes (put i b l)
unfolding put
Bytes-put i b l hb hl = Bytes-append (take i l) (b ++ drop (i + length b) l) (Bytes-take i l hl) (Bytes-append b (drop (i + length b) l) hb (Bytes-drop (i + length b) l hl))

pub Bytes-put_sector : (s : ℕ) (b l : List ℕ) → Bytes b → Bytes l → Bytes (put_sector s b l)
unfolding put_sector
Bytes-put_sector s b l hb hl = Bytes-put (256 * s) b l hb hl

-- bytes that f makes of the elements of a list, one after the other
pub Bytes-flat : {A : Type 0} (f : A → List ℕ) (xs : List A) (d : A) → ((i : ℕ) → i < length xs → Bytes (f (get_or xs i d))) → Bytes (flat f xs)
unfolding flat
Bytes-flat f [] d h = Bytes-nil
Bytes-flat f (x ∷ xs) d h = Bytes-append (f x) (flat f xs) (h 0 (omega arith)) (Bytes-flat f xs d (λ i l. h (suc i) (omega arith)))
