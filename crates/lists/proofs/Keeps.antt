-- Two images that agree outside some sectors.
use mathlib.Core.Path.{◌≡◌, refl, ◌∙◌, sym}
use mathlib.Core.Bool.{false, Bool, true, true≢false, not}
use mathlib.Core.List.{List, [], ◌∷◌, ◌++◌}
use Prim.Native.Nat.{ℕ, zero, suc, ◌+◌, ◌≤◌, ◌<◌, ◌*◌}
use native.Mathlib.Decide.{dec_lt, dec_le}
use native.Mathlib.Omega.{arith}
use lib.ListN.{length}
use lib.Dec.{eqb}
use borrow.Author.Tests.{eq-eqb, not-true}
use Rattle.lists.specs.Parts.{sector, put}
use Rattle.lists.specs.Lists.{among, ◌and◌, ◌or◌, range, flat, all}
use Rattle.lists.proofs.Tests.{or_left, or_right, and_left, and_right}
use Rattle.lists.proofs.Puts.{length-put, part-put_before, part-put_after}

pub record Keeps (ws a b : List ℕ) : Type 0 where
  pub long : length b ≡ length a
  pub at : (u : ℕ) → among u ws ≡ false → sector u b ≡ sector u a

pub among-append_left : (u : ℕ) (s t : List ℕ) → among u (s ++ t) ≡ false → among u s ≡ false
unfolding among ◌and◌ ◌or◌
among-append_left u [] t e = refl
among-append_left u (x ∷ s) t e = rw (or_left (eqb u x) (among u (s ++ t)) e) (among-append_left u s t (or_right (eqb u x) (among u (s ++ t)) e))

pub among-append_right : (u : ℕ) (s t : List ℕ) → among u (s ++ t) ≡ false → among u t ≡ false
unfolding among ◌and◌ ◌or◌
among-append_right u [] t e = e
among-append_right u (x ∷ s) t e = among-append_right u s t (or_right (eqb u x) (among u (s ++ t)) e)

-- what is not among a range lies before it or after it
pub range_out : (u i n : ℕ) → i ≤ u → u < i + n → among u (range i n) ≡ true
unfolding among range ◌and◌ ◌or◌
range_out u i zero h l = absurd (omega arith)
range_out u i (suc n) h l = elim (dec_lt i u) [
  | yes lt ↦ rw (range_out u (suc i) n (omega arith) (omega arith)) (or-true (eqb u i))
  | no ge ↦ rw (eq-eqb u i (omega arith))
]
  where
    or-true : (x : Bool) → x or true ≡ true
    or-true true = refl
    or-true false = refl

pub Keeps-refl : (a : List ℕ) → Keeps [] a a
Keeps-refl a = record { long = refl; at = λ u h. refl }

pub Keeps-trans : (ws vs a b c : List ℕ) → Keeps ws a b → Keeps vs b c → Keeps (ws ++ vs) a c
Keeps-trans ws vs a b c p q = record {
  long = q.long ∙ p.long;
  at = λ u e. q.at u (among-append_right u ws vs e) ∙ p.at u (among-append_left u ws vs e);
}

-- bytes written inside the sectors s, .., s + n - 1
pub Keeps-put : (s n i : ℕ) (b a : List ℕ) → 256 * s ≤ i → i + length b ≤ 256 * (s + n) → i + length b ≤ length a → Keeps (range s n) a (put i b a)
unfolding sector ◌and◌ ◌or◌
Keeps-put s n i b a lo hi fits = record {
  long = length-put i b a fits;
  at = λ u e. elim (dec_lt u s) [
    | yes l ↦ part-put_before i b a fits (256 * u) 256 (omega arith)
    | no g ↦ elim (dec_le (s + n) u) [
      | yes m ↦ part-put_after i b a fits (256 * u) 256 (omega arith)
      | no k ↦ absurd (true≢false (sym (range_out u s n (omega arith) (omega arith)) ∙ e))
    ]
  ];
}

-- a file none of whose sectors is written reads as before
pub flat-Keeps : (ws a b : List ℕ) → Keeps ws a b → (ss : List ℕ) → all (λ s. not (among s ws)) ss ≡ true → flat (λ s. sector s b) ss ≡ flat (λ s. sector s a) ss
unfolding flat all ◌and◌ ◌or◌
flat-Keeps ws a b k [] e = refl
flat-Keeps ws a b k (s ∷ ss) e =
    let h : among s ws ≡ false = not-true (among s ws) (and_left (not (among s ws)) (all (λ s. not (among s ws)) ss) e) in
    rw (k.at s h, flat-Keeps ws a b k ss (and_right (not (among s ws)) (all (λ s. not (among s ws)) ss) e))
