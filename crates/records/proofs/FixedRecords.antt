-- Fixed records: `pieces` of a stream and of what follows it, and back from the pieces to the stream.
use mathlib.Core.Path.{◌≡◌, refl, ap}
use mathlib.Core.Bool.{Bool, true}
use mathlib.Core.List.{List, [], ◌∷◌, ◌++◌}
use Prim.Native.Nat.{ℕ, zero, suc, ◌+◌, ◌*◌, ◌/◌, ◌%◌, ◌≤◌, ◌<◌}
use native.Mathlib.Nat.{mul-suc, mul-add-div, mul-add-mod_self_left, zero-add}
use native.Mathlib.Omega.{arith}
use lib.ListN.{length, length-drop, take-append-drop, take, drop, length-append}
use lib.Seq.{take-append-le, drop-append-le, length-take-le}
use Rattle.lists.specs.Lists.{flat, all, pieces}
use Rattle.lists.proofs.Tests.{both_true}

module _ (w : ℕ) where
  -- lengths, where the first list is k times as long as a record
  pub length-div : (k : ℕ) (s t : List ℕ) → 0 < w → length s ≡ w * k → length (s ++ t) / w ≡ k + length t / w
  length-div k s t p h = rw (length-append, h) (mul-add-div p k (length t))

  pub length-mod : (k : ℕ) (s t : List ℕ) → length s ≡ w * k → length (s ++ t) % w ≡ length t % w
  length-mod k s t h = rw (length-append, h) (mul-add-mod_self_left w k (length t))

  one_less : (k : ℕ) (s : List ℕ) → length s ≡ w * suc k → (w ≤ length s) × (length (drop w s) ≡ w * k)
  one_less k s h =
      let m : w * suc k ≡ w * k + w = mul-suc w k in
      (omega arith, omega (arith, length-drop w s))

  pub pieces-append : (k m : ℕ) (s t : List ℕ) → length s ≡ w * k → pieces (k + m) w (s ++ t) ≡ pieces k w s ++ pieces m w t
  unfolding pieces
  pieces-append zero m [] t h = rw zero-add
  pieces-append zero m (x ∷ s) t h = absurd (omega arith)
  pieces-append (suc k) m s t h =
      let z : suc k + m ≡ suc (k + m) = omega arith in
      let o : (w ≤ length s) × (length (drop w s) ≡ w * k) = one_less k s h in
      let l : w ≤ length s = o.0 in
      rw (z, take-append-le w s t, drop-append-le w s t) (ap (λ (ps : List (List ℕ)). take w s ∷ ps) (pieces-append k m (drop w s) t o.1))

  pub flat-pieces : (f : List ℕ → List ℕ) (k : ℕ) (s : List ℕ) → ((r : List ℕ) → f r ≡ r) → length s ≡ w * k → flat f (pieces k w s) ≡ s
  unfolding pieces flat
  flat-pieces f zero [] e h = refl
  flat-pieces f zero (x ∷ s) e h = absurd (omega arith)
  flat-pieces f (suc k) s e h = rw (e (take w s), flat-pieces f k (drop w s) e (one_less k s h).1) (take-append-drop w s)

  pub all-pieces : (p : List ℕ → Bool) (k : ℕ) (s : List ℕ) → ((r : List ℕ) → length r ≡ w → p r ≡ true) → length s ≡ w * k → all p (pieces k w s) ≡ true
  unfolding pieces all
  all-pieces p zero s e h = refl
  all-pieces p (suc k) s e h =
      let o : (w ≤ length s) × (length (drop w s) ≡ w * k) = one_less k s h in
      both_true _ _ (e (take w s) (length-take-le w s o.0)) (all-pieces p k (drop w s) e o.1)
