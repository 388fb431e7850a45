-- The rest of a run and one step of packing, case by case.
use mathlib.Core.Path.{◌≡◌}
use mathlib.Core.Logic.{◌≢◌}
use mathlib.Core.List.{List, [], ◌∷◌, ◌++◌}
use Prim.Native.Nat.{ℕ, zero, suc, ◌+◌, ◌≤◌, ◌<◌}
use native.Mathlib.Numerals.{add-one}
use native.Mathlib.Omega.{arith}
use native.Mathlib.Decide.{ℕ_discrete}
use lib.ListN.{length, length-append, get_or, drop, drop_of_length-le}
use lib.Seq.{drop-cons}
use borrow.Author.Tests.{ne_eqb}
use Rattle.text.specs.Packing.{space, mark, most_spaces, rest, goes_out, held_after, packed_from}

pub rest_none : (k : ℕ) → k ≡ 0 → rest k ≡ []
unfolding rest
rest_none k e = rw e

pub rest_more : (k : ℕ) → 2 ≤ k → rest k ≡ (mark + k) ∷ []
unfolding rest
rest_more k h = rw (ne_eqb k 0 (λ e. omega arith), ne_eqb k 1 (λ e. omega arith))

pub goes_full : (k : ℕ) → k ≡ most_spaces → goes_out k space ≡ (mark + most_spaces) ∷ []
unfolding goes_out
goes_full k e = rw e

pub goes_space : (k : ℕ) → k ≢ most_spaces → goes_out k space ≡ []
unfolding goes_out
goes_space k h = rw (ne_eqb k most_spaces h)

pub goes_other : (k b : ℕ) → b ≢ space → goes_out k b ≡ rest k ++ (b ∷ [])
unfolding goes_out
goes_other k b h = rw (ne_eqb b space h)

pub held_space : (k : ℕ) → k ≢ most_spaces → held_after k space ≡ k + 1
unfolding held_after
held_space k h = rw (ne_eqb k most_spaces h)

pub held_other : (k b : ℕ) → b ≢ space → held_after k b ≡ 0
unfolding held_after
held_other k b h = rw (ne_eqb b space h)

-- what holds of no space, of one and of more holds of each rest
pub each_rest : (P : ℕ → List ℕ → Type 0) → P 0 [] → P 1 (space ∷ []) → ((k : ℕ) → 2 ≤ k → P k ((mark + k) ∷ [])) → (k : ℕ) → P k (rest k)
unfolding rest
each_rest P none one more zero = none
each_rest P none one more (suc zero) = one
each_rest P none one more (suc (suc k)) = rw (rest_more (suc (suc k)) (omega arith)) (more (suc (suc k)) (omega arith))

-- a space after 127, a space after fewer, and another byte: what holds in these three cases holds of each step
pub each_step : (P : ℕ → ℕ → List ℕ → ℕ → Type 0) → P most_spaces space ((mark + most_spaces) ∷ []) 1 → ((k : ℕ) → k ≢ most_spaces → P k space [] (k + 1))
    → ((k b : ℕ) → b ≢ space → P k b (rest k ++ (b ∷ [])) 0) → (k b : ℕ) → P k b (goes_out k b) (held_after k b)
unfolding goes_out held_after
each_step P full more other k b = elim (ℕ_discrete b space) [
  | yes e ↦ rw e (elim (ℕ_discrete k most_spaces) [
    | yes f ↦ rw f full
    | no g ↦ rw (goes_space k g, held_space k g) (more k g)
  ])
  | no g ↦ rw (goes_other k b g, held_other k b g) (other k b g)
]

pub rest_short : (k : ℕ) → length (rest k) ≤ k
rest_short = each_rest (λ k x. length x ≤ k) (omega arith) (omega arith) (λ k h. omega arith)

-- what goes out and what is held then is no more than what was held and the byte
pub step_short : (k b : ℕ) → length (goes_out k b) + held_after k b ≤ k + 1
step_short = each_step (λ k b x m. length x + m ≤ k + 1) (omega arith) (λ k h. omega arith) (λ k b h. simp length-append (omega (arith, rest_short k)))

pub step_held : (k b : ℕ) → k ≤ most_spaces → held_after k b ≤ most_spaces
step_held = each_step (λ k b x m. k ≤ most_spaces → m ≤ most_spaces) (λ h. omega arith) (λ k g h. omega arith) (λ k b g h. omega arith)

pub goes_room : (k b : ℕ) → b ≢ space → length (goes_out k b) ≡ length (rest k) + 1
goes_room k b h = rw (goes_other k b h) (length-append (rest k) (b ∷ []))

-- what is left to pack from byte i on, when k spaces are held back
module _ (k : ℕ) (t : List ℕ) (i : ℕ) where
  pub packed_at : i < length t → packed_from k (drop i t) ≡ goes_out k (get_or t i 0) ++ packed_from (held_after k (get_or t i 0)) (drop (i + 1) t)
  unfolding packed_from
  packed_at h = rw (add-one, drop-cons t i 0 h, packed_from)

  pub packed_end : length t ≤ i → packed_from k (drop i t) ≡ rest k
  unfolding packed_from
  packed_end h = rw (drop_of_length-le t h)
