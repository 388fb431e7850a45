-- Bytes of a list copied over the front of another, a part at a time.
use mathlib.Core.Path.{◌≡◌}
use mathlib.Core.List.{List}
use Prim.Native.Nat.{ℕ, ◌+◌, ◌-◌, ◌≤◌}
use native.Mathlib.Nat.{add-zero, sub-zero}
use native.Mathlib.Omega.{arith}
use lib.ListN.{length}
use Rattle.lists.specs.Parts.{part, over, put}
use Rattle.lists.proofs.LentParts.{length-part}
use Rattle.lists.proofs.RangeParts.{part-add}
use Rattle.lists.proofs.Fronts.{Front, Front-start, Front-more, front_end}

-- of n bytes of d from p on that are to stand over o, the first i are copied
abbrev pub Copied : List ℕ → ℕ → ℕ → List ℕ → List ℕ → ℕ → Type 0
Copied d p n o out i = Front (part p n d) (part (p + i) (n - i) d) o out i

pub Copied-none : (d : List ℕ) (p n : ℕ) (o : List ℕ) → Copied d p n o o 0
Copied-none d p n o = rw (add-zero p, sub-zero n) (Front-start (part p n d) o)

module _ (d : List ℕ) (p n : ℕ) (o out : List ℕ) (i : ℕ) (c : Copied d p n o out i) where
  pub copied_all : n ≤ i → out ≡ over (part p n d) o
  unfolding part
  copied_all h =
      let z : n - i ≡ 0 = omega arith in
      (front_end _ _ _ _ _ c (rw z)).1

  pub Copied-more : (k : ℕ) (b : List ℕ) → i + k ≤ n → p + n ≤ length d → b ≡ part (p + i) k d → Copied d p n o (put i b out) (i + k)
  Copied-more k b h f e =
      let z : n - i ≡ k + (n - (i + k)) = omega arith in
      let y : p + (i + k) ≡ p + i + k = omega arith in
      let l : length (part (p + i) k d) ≡ k = length-part (p + i) k d (omega arith) in
      Front-more _ _ _ _ _ c (part (p + i) k d) (part (p + (i + k)) (n - (i + k)) d) (put i b out) (i + k)
      (rw (z, y) (part-add (p + i) k (n - (i + k)) d)) (rw l, rw e)
