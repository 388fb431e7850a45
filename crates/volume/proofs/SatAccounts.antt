-- Owners put in or left out: none stands twice, and the SAT's account of them.
use Rattle.std.specs.Prelude.{if◌then◌else◌}
use mathlib.Core.Path.{◌≡◌, ap, ◌∙◌, sym, refl}
use mathlib.Core.Bool.{true, not, false, true≢false, Bool}
use mathlib.Core.List.{List, [], ◌∷◌, ◌++◌}
use Prim.Native.Nat.{ℕ, ◌<◌}
use native.Mathlib.Omega.{arith}
use lib.Dec.{eqb, leb, ltb}
use borrow.Author.Tests.{not-true, eq-eqb, ltb-true, lt-leb}
use Rattle.lists.specs.Lists.{all, among, distinct, ◌or◌}
use Rattle.lists.proofs.Tests.{and_left, and_right, both_true, not_both, or_left, or_right, is_false, or_first, or_second}
use Rattle.lists.proofs.Lists.{among-append, all-among, all_ext}
use Rattle.lists.proofs.JoinedLists.{middle_apart}
use Rattle.volume.specs.Sat.{with_bits, owns, sat_of}
use Rattle.volume.proofs.BitsSet.{sat_numbers}
use Rattle.volume.proofs.SatChanged.{sat_changed}

-- a part put in, whose members stand once in it and nowhere else
distinct_front : (g b : List ℕ) → distinct b ≡ true → distinct g ≡ true → all (λ u. not (among u b)) g ≡ true → distinct (g ++ b) ≡ true
unfolding distinct all
distinct_front [] b h k a = h
distinct_front (x ∷ g) b h k a =
    both_true _ _
    (ap not (among-append x g b ∙ not_both _ _ (not-true _ (and_left _ _ k)) (not-true _ (and_left _ _ a))))
    (distinct_front g b h (and_right _ _ k) (and_right _ _ a))

pub distinct_in : (p g b : List ℕ) → distinct (p ++ b) ≡ true → distinct g ≡ true → all (λ u. not (among u (p ++ b))) g ≡ true → distinct (p ++ (g ++ b)) ≡ true
unfolding distinct among
distinct_in [] g b h k a = distinct_front g b h k a
distinct_in (x ∷ p) g b h k a =
    both_true _ _
    (ap not (among-append x p (g ++ b) ∙ not_both _ _ (or_left _ _ apart) (among-append x g b ∙ not_both _ _ out (or_right _ _ apart))))
    (distinct_in p g b (and_right _ _ h) k rest)
  where
    apart : among x p or among x b ≡ false
    apart = sym (among-append x p b) ∙ not-true _ (and_left _ _ h)

    out : among x g ≡ false
    out = is_false (among x g) (λ m. true≢false (sym (or_first _ _ (eq-eqb x x refl)) ∙ not-true _ (all-among (λ u. not (among u (x ∷ (p ++ b)))) g x a m)))

    rest : all (λ u. not (among u (p ++ b))) g ≡ true
    rest = all_ext _ _ (λ u. not (among u (p ++ b))) g (λ u c q. ap not (or_right _ _ (not-true _ c))) a a

false-or : (m : Bool) → false or m ≡ m
unfolding ◌or◌
false-or m = refl

-- a middle part does not count for what is not in it, and makes each of its members one
among_without : (u : ℕ) (p g b : List ℕ) → among u g ≡ false → among u (p ++ (g ++ b)) ≡ among u (p ++ b)
among_without u p g b q =
    let rest : among u (g ++ b) ≡ among u b = among-append u g b ∙ ap (λ (m : Bool). m or among u b) q ∙ false-or (among u b) in
    among-append u p (g ++ b) ∙ ap (λ (m : Bool). among u p or m) rest ∙ sym (among-append u p b)

pub among_middle : (u : ℕ) (p g b : List ℕ) → among u g ≡ true → among u (p ++ (g ++ b)) ≡ true
among_middle u p g b q = among-append u p (g ++ b) ∙ or_second _ _ (among-append u g b ∙ or_first _ _ q)

module _ (t : ℕ) (p g b s : List ℕ) (it : sat_numbers g ≡ true) where
  pub sat_cleared : s ≡ sat_of t (p ++ (g ++ b)) → distinct (p ++ (g ++ b)) ≡ true → all (λ u. ltb u t) g ≡ true → with_bits 0 s g ≡ sat_of t (p ++ b)
  unfolding owns
  sat_cleared is d below = sat_changed 0 t (p ++ (g ++ b)) (p ++ b) g s (omega arith) is it (λ u h. by u (among u g) refl)
    where
      by : (u : ℕ) (c : Bool) → among u g ≡ c → (if among u g then eqb 0 1 else owns t (p ++ (g ++ b)) u) ≡ owns t (p ++ b) u
      by u true q =
          let l : u < t = ltb-true _ _ (all-among (λ x. ltb x t) g u below q) in
          rw q (sym (not_both (leb t u) (among u (p ++ b)) (lt-leb t u l) (middle_apart p g b u d q)))
      by u false q = rw q (ap (λ (m : Bool). leb t u or m) (among_without u p g b q))

  pub sat_marked : s ≡ sat_of t (p ++ b) → with_bits 1 s g ≡ sat_of t (p ++ (g ++ b))
  unfolding owns
  sat_marked is = sat_changed 1 t (p ++ b) (p ++ (g ++ b)) g s (omega arith) is it (λ u h. by u (among u g) refl)
    where
      by : (u : ℕ) (c : Bool) → among u g ≡ c → (if among u g then eqb 1 1 else owns t (p ++ b) u) ≡ owns t (p ++ (g ++ b)) u
      by u true q = rw q (sym (or_second (leb t u) (among u (p ++ (g ++ b))) (among_middle u p g b q)))
      by u false q = rw q (ap (λ (m : Bool). leb t u or m) (sym (among_without u p g b q)))
