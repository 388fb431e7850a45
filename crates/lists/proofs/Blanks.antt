-- Zeros: parts and pieces of them, and lists of one element again and again.
use mathlib.Core.Path.{◌≡◌, sym, ap, ◌∙◌, refl}
use mathlib.Core.List.{List, ◌++◌, ◌∷◌, append_assoc, []}
use mathlib.Core.Bool.{Bool, true}
use Prim.Native.Nat.{ℕ, ◌≤◌, ◌+◌, ◌-◌, zero, suc, ◌*◌}
use native.Mathlib.Omega.{arith}
use native.Mathlib.Nat.{mul-suc, add_comm}
use lib.ListN.{length, length-append, replicate-append-replicate, take, get_or, replicate}
use lib.Seq.{take_at, drop_at}
use Rattle.lists.specs.Parts.{filled, blanks}
use Rattle.lists.specs.Lists.{pieces, all, flat}
use Rattle.lists.proofs.Puts.{length-blanks}
use Rattle.lists.proofs.Tests.{both_true}

pub length-filled : (n : ℕ) (b : List ℕ) → length b ≤ n → length (filled n b) ≡ n
unfolding filled
length-filled n b h = simp (length-append, length-blanks) (omega arith)

pub blanks-add : (n m : ℕ) → blanks (n + m) ≡ blanks n ++ blanks m
unfolding blanks
blanks-add n m = sym (replicate-append-replicate n m 0)

pub take-blanks : (n m : ℕ) → n ≤ m → take n (blanks m) ≡ blanks n
take-blanks n m h =
    let k : n + (m - n) ≡ m = omega arith in
    ap (λ (q : ℕ). take n (blanks q)) (sym k) ∙ rw (blanks-add n (m - n)) (take_at (blanks n) (blanks (m - n)) n (length-blanks n))

pub get_or-blanks : (n i : ℕ) → get_or (blanks n) i 0 ≡ 0
unfolding blanks
get_or-blanks zero i = refl
get_or-blanks (suc n) zero = refl
get_or-blanks (suc n) (suc i) = get_or-blanks n i

-- pieces of zeros are zeros
pub pieces-blanks : (w k m : ℕ) (x : List ℕ) → w * k ≤ m → pieces k w (blanks m ++ x) ≡ replicate k (blanks w)
unfolding pieces
pieces-blanks w zero m x h = refl
pieces-blanks w (suc k) m x h =
    let s : w * suc k ≡ w + w * k = mul-suc w k ∙ add_comm (w * k) w in
    let n : w + (m - w) ≡ m = omega arith in
    let e : blanks m ≡ blanks w ++ blanks (m - w) = ap blanks (sym n) ∙ blanks-add w (m - w) in
    rw (e, append_assoc, take_at (blanks w) (blanks (m - w) ++ x) w (length-blanks w), drop_at (blanks w) (blanks (m - w) ++ x) w (length-blanks w))
    (ap (λ (l : List (List ℕ)). blanks w ∷ l) (pieces-blanks w k (m - w) x (omega arith)))

module _ {A : Type 0} where
  pub all-replicate : (p : A → Bool) (n : ℕ) (z : A) → p z ≡ true → all p (replicate n z) ≡ true
  unfolding all
  all-replicate p zero z e = refl
  all-replicate p (suc n) z e = both_true _ _ e (all-replicate p n z e)

  pub flat-replicate : (g : A → List ℕ) (n : ℕ) (z : A) → g z ≡ [] → flat g (replicate n z) ≡ []
  unfolding flat
  flat-replicate g zero z e = refl
  flat-replicate g (suc n) z e = rw e (flat-replicate g n z e)
