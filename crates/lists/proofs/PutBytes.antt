-- The bytes of a list in which others were put: outside of them, and theirs.
use mathlib.Core.List.{List}
use mathlib.Core.Logic.{◌⊎◌, ⊎_elim}
use mathlib.Core.Path.{◌≡◌, ap, sym, ◌∙◌}
use native.Mathlib.Nat.{add-zero}
use native.Mathlib.Omega.{arith}
use Prim.Native.Nat.{ℕ, ◌+◌, ◌≤◌, ◌<◌, ◌*◌, ◌/◌, ◌%◌}
use lib.ListN.{length}
use Rattle.lists.specs.Parts.{byte, part, put, word, long, bytes4}
use Rattle.lists.proofs.LentParts.{byte-part, word_back}
use Rattle.lists.proofs.Puts.{part-put_before, part-put_after, part-put_same}

one-byte : (j : ℕ) (l m : List ℕ) → part j 1 l ≡ part j 1 m → byte l j ≡ byte m j
one-byte j l m e =
    ap (byte l) (sym (add-zero j)) ∙ sym (byte-part j 1 l 0 (omega arith)) ∙ ap (λ (x : List ℕ). byte x 0) e ∙ byte-part j 1 m 0 (omega arith)
    ∙ ap (byte m) (add-zero j)

module _ (i : ℕ) (b l : List ℕ) (fits : i + length b ≤ length l) where
  pub byte-put_outside : (j : ℕ) → (j < i) ⊎ (i + length b ≤ j) → byte (put i b l) j ≡ byte l j
  byte-put_outside j h =
      ⊎_elim (λ x. one-byte j _ _ (part-put_before i b l fits j 1 (omega (arith, x)))) (λ x. one-byte j _ _ (part-put_after i b l fits j 1 x)) h

  pub byte-put_inside : (j : ℕ) → j < length b → byte (put i b l) (i + j) ≡ byte b j
  byte-put_inside j h = sym (byte-part i (length b) (put i b l) j h) ∙ ap (λ (x : List ℕ). byte x j) (part-put_same i b l fits)

-- a long number is read where it was put
pub long-put : (i v : ℕ) (l : List ℕ) → i + 4 ≤ length l → long (put i (bytes4 v) l) i ≡ v
long-put i v l fits =
    let b : List ℕ = bytes4 v in
    let e0 : byte (put i b l) (i + 0) ≡ v / 65536 / 256 = byte-put_inside i b l fits 0 (omega arith) in
    let e1 : byte (put i b l) (i + 1) ≡ v / 65536 % 256 = byte-put_inside i b l fits 1 (omega arith) in
    let e2 : byte (put i b l) (i + 2) ≡ v % 65536 / 256 = byte-put_inside i b l fits 2 (omega arith) in
    let e3 : byte (put i b l) (i + 3) ≡ v % 65536 % 256 = byte-put_inside i b l fits 3 (omega arith) in
    let z : byte (put i b l) i ≡ v / 65536 / 256 = ap (byte (put i b l)) (sym (add-zero i)) ∙ e0 in
    let y : byte (put i b l) (i + 2 + 1) ≡ v % 65536 % 256 = ap (byte (put i b l)) (omega arith) ∙ e3 in
    let hi : word (put i b l) i ≡ v / 65536 = (λ k. 256 * z k + e1 k) ∙ word_back (v / 65536) in
    let lo : word (put i b l) (i + 2) ≡ v % 65536 = (λ k. 256 * e2 k + y k) ∙ word_back (v % 65536) in
    (λ k. 65536 * hi k + lo k) ∙ omega arith
