-- Walks over the LUNs, one at a time: what is left fits as the whole does.
use mathlib.Core.Path.{◌≡◌, refl, sym, subst, ◌∙◌}
use mathlib.Core.Bool.{Bool, true, false}
use mathlib.Core.List.{List, [], ◌∷◌}
use Prim.Native.Nat.{ℕ, ◌-◌, ◌<◌, ◌≤◌}
use native.Mathlib.Omega.{arith}
use lib.ListN.{length, get_or, take, drop}
use Rattle.std.proofs.lemmas.List.{take_all}
use borrow.Author.Tests.{eq-eqb}
use Rattle.lists.specs.Lists.{◌and◌, all}
use Rattle.lists.proofs.Bools.{and-false}
use Rattle.luns.specs.declared.Lun.{Lun}
use Rattle.luns.specs.Luns.{free_lun, agree, all_agree, lun_fits, fits}
use Rattle.luns.proofs.Fitting.{unheld_fits, all-agree_free}

-- each of what is left fits by itself, and every two agree
abbrev pub left_fits : List ℕ → List Lun → Bool
left_fits img us = all (lun_fits img) us and all_agree us

pub whole_fits : (img : List ℕ) (us : List Lun) → length us ≡ 16 → fits img us ≡ left_fits img us
unfolding fits ◌and◌
whole_fits img us l = rw (eq-eqb _ _ l)

and_swap : (a b c d : Bool) → (a and b) and (c and d) ≡ (a and c) and (b and d)
unfolding ◌and◌
and_swap true true c d = refl
and_swap true false c d = rw (and-false c)
and_swap false b c d = refl

-- all but the first of a slice
abbrev pub others : List Lun → List Lun
others us = take (length us - 1) (drop 1 us)

module _ (img : List ℕ) where
  left_step : (us : List Lun) → 1 ≤ length us
      → left_fits img us ≡ (lun_fits img (get_or us 0 free_lun) and all (agree (get_or us 0 free_lun)) (others us)) and left_fits img (others us)
  unfolding all all_agree
  left_step [] h = absurd (omega arith)
  left_step (u ∷ us) h =
      let whole : others (u ∷ us) ≡ us = take_all (length (u ∷ us) - 1) us (omega arith) in
      subst (λ (t : List Lun). left_fits img (u ∷ us) ≡ (lun_fits img u and all (agree u) t) and left_fits img t) (sym whole) (and_swap _ _ _ _)

  pub left_end : (us : List Lun) → length us < 1 → true ≡ left_fits img us
  unfolding all all_agree ◌and◌
  left_end [] h = refl
  left_end (u ∷ us) h = absurd (omega arith)

-- the first of them: held and fit, held and unfit, or free
module _ (img : List ℕ) (us : List Lun) (l : 1 ≤ length us) where
  pub left_fit : true ≡ lun_fits img (get_or us 0 free_lun) and all (agree (get_or us 0 free_lun)) (others us)
      → left_fits img us ≡ left_fits img (others us)
  unfolding ◌and◌
  left_fit e = left_step img us l ∙ rw (← e)

  pub left_unfit : false ≡ lun_fits img (get_or us 0 free_lun) and all (agree (get_or us 0 free_lun)) (others us)
      → left_fits img us ≡ false
  unfolding ◌and◌
  left_unfit e = left_step img us l ∙ rw (← e)

  pub left_free : (get_or us 0 free_lun).held ≡ false → left_fits img us ≡ left_fits img (others us)
  unfolding ◌and◌
  left_free h = left_step img us l ∙ rw (unheld_fits img (get_or us 0 free_lun) h, all-agree_free (get_or us 0 free_lun) (others us) h)
