-- A text comes back from its packed form, so no two texts have the same; and no byte of it stands for nothing.
use mathlib.Core.Path.{◌≡◌, refl, ap, sym, ◌∙◌}
use mathlib.Core.Bool.{Bool, true}
use mathlib.Core.List.{List, [], ◌∷◌, ◌++◌, append_assoc, append-nil}
use Prim.Native.Nat.{ℕ, ◌+◌, ◌-◌, ◌<◌, ◌≤◌}
use native.Mathlib.Omega.{arith}
use lib.ListN.{length, replicate, replicate-append-replicate}
use lib.Dec.{leb}
use borrow.Author.Tests.{ltb-true, le-leb}
use Rattle.lists.specs.Lists.{all}
use Rattle.lists.proofs.Lists.{all_head, all_tail, all-append, all-cons, all-nil}
use Rattle.text.specs.Packing.{space, mark, most_spaces, is_text, shown, unpacked, rest, goes_out, held_after, packed_from, packed}
use Rattle.text.proofs.PackingSteps.{each_rest, each_step}
use Rattle.text.proofs.UnpackingSteps.{unpacked-append, shown_self, shown_spaces, length_self, length_spaces}

unpacked_one : (b : ℕ) → unpacked (b ∷ []) ≡ shown b
unfolding unpacked
unpacked_one b = append-nil (shown b)

unpacked_run : (k : ℕ) → unpacked ((mark + k) ∷ []) ≡ replicate k space
unpacked_run k =
    let e : mark + k - mark ≡ k = omega arith in
    unpacked_one (mark + k) ∙ shown_spaces (mark + k) (omega arith) ∙ ap (λ (n : ℕ). replicate n space) e

unpacked-rest : (k : ℕ) → unpacked (rest k) ≡ replicate k space
unfolding unpacked
unpacked-rest = each_rest (λ k x. unpacked x ≡ replicate k space) refl (unpacked_one space ∙ shown_self space (omega arith)) (λ k h. unpacked_run k)

-- the text of what goes out and of what is held then is that of what was held, and the byte
unpacked_step : (k b : ℕ) → b < mark → unpacked (goes_out k b) ++ replicate (held_after k b) space ≡ replicate k space ++ (b ∷ [])
unfolding unpacked
unpacked_step =
    each_step (λ k b x m. b < mark → unpacked x ++ replicate m space ≡ replicate k space ++ (b ∷ []))
    (λ h. rw (unpacked_run most_spaces))
    (λ k g h. sym (replicate-append-replicate k 1 space))
    (λ k b g h. rw (unpacked-append (rest k) (b ∷ []), unpacked-rest k, unpacked_one b, shown_self b h) (append-nil (replicate k space ++ (b ∷ []))))

unpacked_from : (k : ℕ) (t : List ℕ) → is_text t ≡ true → unpacked (packed_from k t) ≡ replicate k space ++ t
unfolding is_text packed_from
unpacked_from k [] h = unpacked-rest k ∙ sym (append-nil (replicate k space))
unpacked_from k (b ∷ t) h =
    let m : ℕ = held_after k b in
    unpacked-append (goes_out k b) (packed_from m t) ∙ rw (unpacked_from m t (all_tail _ b t h))
    (sym (append_assoc (unpacked (goes_out k b)) (replicate m space) t)
    ∙ rw (unpacked_step k b (ltb-true b mark (all_head _ b t h))) (append_assoc (replicate k space) (b ∷ []) t))

pub unpacked-packed : (t : List ℕ) → is_text t ≡ true → unpacked (packed t) ≡ t
unfolding packed
unpacked-packed t h = unpacked_from 0 t h

pub packed_one_one : (t u : List ℕ) → is_text t ≡ true → is_text u ≡ true → packed t ≡ packed u → t ≡ u
packed_one_one t u h g e = sym (unpacked-packed t h) ∙ ap unpacked e ∙ unpacked-packed u g

-- a byte that stands for something
abbrev stands : ℕ → Bool
stands b = leb 1 (length (shown b))

stands_self : (b : ℕ) → b < mark → stands b ≡ true
stands_self b h = let l : 1 ≤ length (shown b) = omega (arith, length_self b h) in le-leb _ _ l

stands_run : (k : ℕ) → 1 ≤ k → stands (mark + k) ≡ true
stands_run k h = let l : 1 ≤ length (shown (mark + k)) = omega (arith, length_spaces (mark + k) (omega arith)) in le-leb _ _ l

rest-stands : (k : ℕ) → all stands (rest k) ≡ true
rest-stands =
    each_rest (λ k x. all stands x ≡ true) (all-nil stands) (all-cons stands space [] (stands_self space (omega arith)) (all-nil stands))
    (λ k h. all-cons stands (mark + k) [] (stands_run k (omega arith)) (all-nil stands))

step_stands : (k b : ℕ) → b < mark → all stands (goes_out k b) ≡ true
step_stands =
    each_step (λ k b x m. b < mark → all stands x ≡ true)
    (λ h. all-cons stands (mark + most_spaces) [] (stands_run most_spaces (omega arith)) (all-nil stands))
    (λ k g h. all-nil stands)
    (λ k b g h. all-append stands (rest k) (b ∷ []) (rest-stands k) (all-cons stands b [] (stands_self b h) (all-nil stands)))

from_stands : (k : ℕ) (t : List ℕ) → is_text t ≡ true → all stands (packed_from k t) ≡ true
unfolding is_text packed_from
from_stands k [] h = rest-stands k
from_stands k (b ∷ t) h =
    all-append stands (goes_out k b) (packed_from (held_after k b) t) (step_stands k b (ltb-true b mark (all_head _ b t h))) (from_stands (held_after k b) t (all_tail _ b t h))

pub packed_stands : (t : List ℕ) → is_text t ≡ true → all (λ b. leb 1 (length (shown b))) (packed t) ≡ true
unfolding packed
packed_stands t h = from_stands 0 t h
