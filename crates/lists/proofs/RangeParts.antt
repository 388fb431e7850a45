-- Consecutive sectors: members of a range, and a part of the image that covers it.
use mathlib.Core.Path.{◌≡◌, refl, ◌∙◌, ap, sym}
use mathlib.Core.Logic.{◌⊎◌, inl, inr, ⊎_elim}
use mathlib.Core.Bool.{false, true, not}
use mathlib.Core.List.{List, ◌++◌, []}
use Prim.Native.Nat.{ℕ, zero, suc, ◌+◌, ◌≤◌, ◌<◌, ◌*◌}
use native.Mathlib.Omega.{arith}
use lib.Dec.{eqb}
use lib.ListN.{drop}
use lib.Seq.{take-add, drop-drop}
use borrow.Author.Tests.{ne_eqb, not-true}
use Rattle.lists.specs.Lists.{◌and◌, ◌or◌, range, among, distinct, all}
use Rattle.lists.specs.Parts.{part, sector}
use Rattle.lists.proofs.Tests.{and_left, and_right}
use Rattle.lists.proofs.Keeps.{Keeps}

pub among-range : (x i n : ℕ) → (x < i) ⊎ (i + n ≤ x) → among x (range i n) ≡ false
unfolding among range ◌and◌ ◌or◌
among-range x i zero h = refl
among-range x i (suc n) h =
    let ne : eqb x i ≡ false = ne_eqb x i (λ q. ⊎_elim (λ l. omega arith) (λ l. omega arith) h) in
    rw ne (among-range x (suc i) n (⊎_elim (λ l. inl (omega arith)) (λ l. inr (omega arith)) h))

pub distinct-range : (i n : ℕ) → distinct (range i n) ≡ true
unfolding distinct range ◌and◌ ◌or◌
distinct-range i zero = refl
distinct-range i (suc n) = rw (among-range i (suc i) n (inl (omega arith))) (distinct-range (suc i) n)

pub part-add : (i a b : ℕ) (l : List ℕ) → part i (a + b) l ≡ part i a l ++ part (i + a) b l
unfolding part
part-add i a b l = take-add a b (drop i l) ∙ rw drop-drop

pub sectors_first : (s n : ℕ) (l : List ℕ) → part (256 * s) (256 * suc n) l ≡ sector s l ++ part (256 * suc s) (256 * n) l
unfolding sector
sectors_first s n l =
    let a : 256 * suc n ≡ 256 + 256 * n = omega arith in
    let b : 256 * s + 256 ≡ 256 * suc s = omega arith in
    ap (λ (m : ℕ). part (256 * s) m l) a ∙ part-add (256 * s) 256 (256 * n) l ∙ ap (λ (m : ℕ). part (256 * s) 256 l ++ part m (256 * n) l) b

pub part_none : (i : ℕ) (l : List ℕ) → part i 0 l ≡ []
unfolding part
part_none i l = refl

-- sectors that are not written, read as one part
pub Keeps-range : (ws a b : List ℕ) → Keeps ws a b → (s n : ℕ) → all (λ u. not (among u ws)) (range s n) ≡ true → part (256 * s) (256 * n) b ≡ part (256 * s) (256 * n) a
unfolding all range
Keeps-range ws a b k s zero h =
    let z : 256 * 0 ≡ 0 = refl in
    rw z (part_none (256 * s) b ∙ sym (part_none (256 * s) a))
Keeps-range ws a b k s (suc n) h =
    let e : sector s b ++ part (256 * suc s) (256 * n) b ≡ sector s a ++ part (256 * suc s) (256 * n) a =
    rw (k.at s (not-true _ (and_left _ _ h)), Keeps-range ws a b k (suc s) n (and_right _ _ h)) in
    sectors_first s n b ∙ e ∙ sym (sectors_first s n a)
