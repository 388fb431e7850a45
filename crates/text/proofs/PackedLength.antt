-- Packing makes no text longer, and unpacking makes at most 127 bytes of one; of $FF it makes that many.
use mathlib.Core.Path.{◌≡◌, refl}
use mathlib.Core.List.{List, [], ◌∷◌}
use Prim.Native.Nat.{ℕ, zero, suc, ◌+◌, ◌*◌, ◌≤◌}
use native.Mathlib.Omega.{arith}
use lib.ListN.{length, length-append, replicate}
use Rattle.lists.proofs.AreBytes.{Bytes}
use Rattle.text.specs.Packing.{most_spaces, unpacked, held_after, packed_from, packed}
use Rattle.text.proofs.PackingSteps.{rest_short, step_short}
use Rattle.text.proofs.UnpackingSteps.{shown_long, length_spaces}

from_shorter : (k : ℕ) (t : List ℕ) → length (packed_from k t) ≤ k + length t
unfolding packed_from
from_shorter k [] = omega (arith, rest_short k)
from_shorter k (b ∷ t) = simp length-append (omega (arith, from_shorter (held_after k b) t, step_short k b))

pub packed_shorter : (t : List ℕ) → length (packed t) ≤ length t
unfolding packed
packed_shorter t = omega (arith, from_shorter 0 t)

pub unpacked_long : (s : List ℕ) → Bytes s → length (unpacked s) ≤ most_spaces * length s
unfolding unpacked
unpacked_long [] g = omega arith
unpacked_long (b ∷ s) g = simp length-append (omega (arith, shown_long b (g 0), unpacked_long s (λ i. g (suc i))))

pub full_long : (n : ℕ) → length (unpacked (replicate n 0xFF)) ≡ most_spaces * n
unfolding unpacked
full_long zero = refl
full_long (suc n) = simp length-append (omega (arith, length_spaces 0xFF (omega arith), full_long n))
