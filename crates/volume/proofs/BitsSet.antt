-- `with_bits`: which sectors are marked after it.
use Rattle.std.specs.Prelude.{if◌then◌else◌}
use mathlib.Core.Path.{◌≡◌, refl, ◌∙◌}
use mathlib.Core.Bool.{true, Bool, false}
use mathlib.Core.List.{List, [], ◌∷◌, ◌++◌}
use Prim.Native.Nat.{ℕ, ◌/◌, ◌%◌, ◌<◌}
use native.Mathlib.Decide.{ℕ_discrete}
use native.Mathlib.Omega.{arith}
use lib.Dec.{ltb, eqb}
use lib.ListN.{length, get_or, length-set}
use lib.Seq.{get_or-set_same, get_or-set_other}
use borrow.Author.Tests.{ltb-true}
use Rattle.numbers.specs.Numbers.{most_sectors}
use Rattle.lists.specs.Lists.{◌and◌, all, range, ◌or◌, among}
use Rattle.lists.proofs.AreBytes.{Bytes}
use Rattle.lists.proofs.Tests.{and_left, and_right}
use Rattle.volume.specs.Sat.{with_bit, with_bits, marked}
use Rattle.volume.proofs.Bits.{all-range, marked-with_bit, made}

tested : all (λ v. all (λ x. all (λ k. ltb (made v x k) 256) (range 0 8)) (range 0 256)) (range 0 2) ≡ true
unfolding all range made ◌and◌
tested = refl

made-lt : (v x k : ℕ) → v < 2 → x < 256 → k < 8 → made v x k < 256
made-lt v x k hv hx hk =
    ltb-true (made v x k) 256
    (all-range (λ q. ltb (made v x q) 256) 8
    (all-range (λ q. all (λ k. ltb (made v q k) 256) (range 0 8)) 256
    (all-range (λ q. all (λ x. all (λ k. ltb (made q x k) 256) (range 0 8)) (range 0 256)) 2 tested v hv) x hx) k hk)

Bytes-with_bit : (v : ℕ) (b : List ℕ) (s : ℕ) → v < 2 → Bytes b → s / 8 < length b → Bytes (with_bit v b s)
unfolding with_bit made
Bytes-with_bit v b s hv hb hs i = elim (ℕ_discrete i (s / 8)) [
  | yes e ↦
      rw (e, get_or-set_same b (s / 8) (made v (get_or b (s / 8) 0) (s % 8)) 0 hs) (made-lt v (get_or b (s / 8) 0) (s % 8) hv (hb (s / 8)) (omega arith))
  | no ne ↦ rw (get_or-set_other b (s / 8) i (made v (get_or b (s / 8) 0) (s % 8)) 0 ne) (hb i)
]

length-with_bit : (v : ℕ) (b : List ℕ) (s : ℕ) → length (with_bit v b s) ≡ length b
unfolding with_bit
length-with_bit v b s = simp length-set

pub length-with_bits : (v : ℕ) (b ss : List ℕ) → length (with_bits v b ss) ≡ length b
unfolding with_bits
length-with_bits v b [] = refl
length-with_bits v b (s ∷ ss) = length-with_bits v (with_bit v b s) ss ∙ length-with_bit v b s

abbrev pub sat_numbers : List ℕ → Bool
sat_numbers ss = all (λ s. ltb s most_sectors) ss

pub Bytes-with_bits : (v : ℕ) (b ss : List ℕ) → v < 2 → Bytes b → length b ≡ 256 → sat_numbers ss ≡ true → Bytes (with_bits v b ss)
unfolding with_bits all
Bytes-with_bits v b [] hv hb hl hs = hb
Bytes-with_bits v b (s ∷ ss) hv hb hl hs =
    let h : s < most_sectors = ltb-true s most_sectors (and_left _ _ hs) in
    Bytes-with_bits v (with_bit v b s) ss hv (Bytes-with_bit v b s hv hb (omega arith)) (length-with_bit v b s ∙ hl) (and_right _ _ hs)

pick : (a c w m : Bool) → (if c then w else (if a then w else m)) ≡ (if a or c then w else m)
unfolding ◌or◌
pick true true w m = refl
pick true false w m = refl
pick false true w m = refl
pick false false w m = refl

pub marked-with_bits : (v : ℕ) (b ss : List ℕ) (u : ℕ) → v < 2 → Bytes b → length b ≡ 256 → sat_numbers ss ≡ true
    → marked (with_bits v b ss) u ≡ (if among u ss then eqb v 1 else marked b u)
unfolding with_bits all among
marked-with_bits v b [] u hv hb hl hs = refl
marked-with_bits v b (s ∷ ss) u hv hb hl hs =
    let h : s < most_sectors = ltb-true s most_sectors (and_left _ _ hs) in
    let hs8 : s / 8 < length b = omega arith in
    marked-with_bits v (with_bit v b s) ss u hv (Bytes-with_bit v b s hv hb hs8) (length-with_bit v b s ∙ hl) (and_right _ _ hs)
    ∙ rw (marked-with_bit v b s u hv hb hs8) (pick (eqb u s) (among u ss) (eqb v 1) (marked b u))

-- sectors one after the other
pub with_bits-append : (v : ℕ) (b xs ys : List ℕ) → with_bits v b (xs ++ ys) ≡ with_bits v (with_bits v b xs) ys
unfolding with_bits
with_bits-append v b [] ys = refl
with_bits-append v b (x ∷ xs) ys = with_bits-append v (with_bit v b x) xs ys
