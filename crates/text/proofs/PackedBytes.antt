-- A text is bytes, and so is its packed form.
use mathlib.Core.Path.{◌≡◌}
use mathlib.Core.Bool.{true}
use mathlib.Core.List.{List, [], ◌∷◌}
use Prim.Native.Nat.{ℕ, suc, ◌+◌, ◌<◌, ◌≤◌}
use native.Mathlib.Omega.{arith}
use borrow.Author.Tests.{ltb-true}
use Rattle.lists.proofs.AreBytes.{Bytes}
use Rattle.lists.proofs.ByteLists.{Bytes-nil, Bytes-cons, Bytes-append}
use Rattle.lists.proofs.Lists.{all_head, all_tail}
use Rattle.text.specs.Packing.{space, mark, most_spaces, is_text, rest, goes_out, held_after, packed_from, packed}
use Rattle.text.proofs.PackingSteps.{each_rest, each_step, step_held}

pub text_Bytes : (t : List ℕ) → is_text t ≡ true → Bytes t
unfolding is_text
text_Bytes [] h = Bytes-nil
text_Bytes (b ∷ t) h = let l : b < mark = ltb-true b mark (all_head _ b t h) in Bytes-cons b t (omega arith) (text_Bytes t (all_tail _ b t h))

Bytes-one : (b : ℕ) → b < 256 → Bytes (b ∷ [])
Bytes-one b h = Bytes-cons b [] h Bytes-nil

rest-Bytes : (k : ℕ) → k ≤ most_spaces → Bytes (rest k)
rest-Bytes = each_rest (λ k x. k ≤ most_spaces → Bytes x) (λ h. Bytes-nil) (λ h. Bytes-one space (omega arith)) (λ k g h. Bytes-one (mark + k) (omega arith))

step_Bytes : (k b : ℕ) → k ≤ most_spaces → b < 256 → Bytes (goes_out k b)
step_Bytes =
    each_step (λ k b x m. k ≤ most_spaces → b < 256 → Bytes x) (λ h l. Bytes-one (mark + most_spaces) (omega arith)) (λ k g h l. Bytes-nil)
    (λ k b g h l. Bytes-append (rest k) (b ∷ []) (rest-Bytes k h) (Bytes-one b l))

from_Bytes : (k : ℕ) (t : List ℕ) → k ≤ most_spaces → Bytes t → Bytes (packed_from k t)
unfolding packed_from
from_Bytes k [] h g = rest-Bytes k h
from_Bytes k (b ∷ t) h g =
    Bytes-append (goes_out k b) (packed_from (held_after k b) t) (step_Bytes k b h (g 0)) (from_Bytes (held_after k b) t (step_held k b h) (λ i. g (suc i)))

pub packed-Bytes : (t : List ℕ) → Bytes t → Bytes (packed t)
unfolding packed
packed-Bytes t g = from_Bytes 0 t (omega arith) g
