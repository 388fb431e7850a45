-- How a text is packed, in the words of the rules: nothing, another byte, more than 127 spaces, and at most 127 at the end or before
-- another byte.
use mathlib.Core.Path.{◌≡◌, refl, ap, sym, ◌∙◌}
use mathlib.Core.Logic.{◌≢◌}
use mathlib.Core.List.{List, [], ◌∷◌, ◌++◌, append_assoc, append-nil}
use Prim.Native.Nat.{ℕ, zero, suc, ◌+◌, ◌≤◌}
use native.Mathlib.Nat.{zero-add}
use native.Mathlib.Omega.{arith}
use lib.ListN.{replicate, replicate-append-replicate}
use Rattle.text.specs.Packing.{space, mark, most_spaces, rest, goes_out, held_after, packed_from, packed}
use Rattle.text.proofs.PackingSteps.{goes_space, goes_other, held_space, held_other}

pub packed_nothing : packed [] ≡ []
unfolding packed packed_from rest
packed_nothing = refl

from_other : (k b : ℕ) (t : List ℕ) → b ≢ space → packed_from k (b ∷ t) ≡ rest k ++ (b ∷ packed_from 0 t)
unfolding packed_from
from_other k b t h = rw (goes_other k b h, held_other k b h) (append_assoc (rest k) (b ∷ []) (packed_from 0 t))

-- spaces are held back up to 127
from_spaces : (k m : ℕ) (t : List ℕ) → k + m ≤ most_spaces → packed_from k (replicate m space ++ t) ≡ packed_from (k + m) t
unfolding packed_from
from_spaces k zero t h = let e : k ≡ k + 0 = omega arith in ap (λ (n : ℕ). packed_from n t) e
from_spaces k (suc m) t h =
    let e : k + 1 + m ≡ k + suc m = omega arith in
    let g : k ≢ most_spaces = λ q. omega arith in
    rw (goes_space k g, held_space k g) (from_spaces (k + 1) m t (omega arith) ∙ ap (λ (n : ℕ). packed_from n t) e)

spaces_then : (n : ℕ) (t : List ℕ) → n ≤ most_spaces → packed (replicate n space ++ t) ≡ packed_from n t
unfolding packed
spaces_then n t h = from_spaces 0 n t (omega arith) ∙ ap (λ (m : ℕ). packed_from m t) (zero-add n)

pub packed_other : (b : ℕ) (t : List ℕ) → b ≢ space → packed (b ∷ t) ≡ b ∷ packed t
unfolding packed rest
packed_other b t h = from_other 0 b t h

pub packed-rest : (n : ℕ) → n ≤ most_spaces → packed (replicate n space) ≡ rest n
unfolding packed_from
packed-rest n h = ap packed (sym (append-nil (replicate n space))) ∙ spaces_then n [] h

pub packed-rest_before : (n : ℕ) → n ≤ most_spaces → (b : ℕ) (t : List ℕ) → b ≢ space → packed (replicate n space ++ (b ∷ t)) ≡ rest n ++ (b ∷ packed t)
unfolding packed
packed-rest_before n h b t g = spaces_then n (b ∷ t) h ∙ from_other n b t g

-- after 127 spaces are held, one more sends $FF out and is held itself
full_then : (t : List ℕ) → packed_from most_spaces (space ∷ t) ≡ (mark + most_spaces) ∷ packed (space ∷ t)
unfolding packed_from packed goes_out held_after
full_then t = refl

pub packed_long_run : (n : ℕ) (t : List ℕ) → 1 ≤ n → packed (replicate (most_spaces + n) space ++ t) ≡ (mark + most_spaces) ∷ packed (replicate n space ++ t)
packed_long_run zero t h = absurd (omega arith)
packed_long_run (suc m) t h =
    ap (λ (s : List ℕ). packed (s ++ t)) (sym (replicate-append-replicate most_spaces (suc m) space))
    ∙ ap packed (append_assoc (replicate most_spaces space) (replicate (suc m) space) t)
    ∙ spaces_then most_spaces (replicate (suc m) space ++ t) (omega arith) ∙ full_then (replicate m space ++ t)
