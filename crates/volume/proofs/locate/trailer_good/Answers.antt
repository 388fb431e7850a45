use mathlib.Core.Path.{◌≡◌, refl, sym, ap, ◌∙◌}
use Prim.Native.Nat.{ℕ, ◌-◌}
use lib.ListN.{take, drop}
use lib.Dec.{eqb, ltb}
use borrow.Author.Tests.{eq-eqb, ne_eqb}
use Rattle.lists.specs.Lists.{◌and◌}
use Rattle.lists.specs.Parts.{word, zeros}
use Rattle.lists.proofs.LentParts.{lent_rest}
use Rattle.volume.specs.Volume.{sat_back}
use Rattle.volume.proofs.Tests.{met, unmet}
use Rattle.volume.proofs.locate.trailer_good.Goals as goal
use Rattle.volume.proofs.locate.trailer_good.Goals.{then-word_at-t, else-word_at-t, then-all_zero, else-all_zero}

pub returns-then-sat_back-t : goal.returns-then-sat_back-t
returns-then-sat_back-t c =
    let tr = c.args.tr.now in
    let t = c.args.t in
    let rest : take (256 - 8) (drop 8 tr) ≡ drop 8 tr = ap (λ (n : ℕ). take (n - 8) (drop 8 tr)) (sym c.told-tr) ∙ lent_rest 8 tr in
    let says : eqb c.word_at.result t ≡ eqb (word tr 0) t = ap (λ n. eqb n t) c.word_at.ensures.0 in
    let one : c.if-word_at-t.value ≡ eqb (word tr 0) t and zeros (drop 8 tr) = elim c.if-word_at-t.branch [
      | then-word_at-t w ↦ met (eq-eqb _ _ w.if-word_at-t.true) says w.value-is (w.all_zero.ensures ∙ ap zeros rest)
      | else-word_at-t w ↦ unmet _ (ne_eqb _ _ w.if-word_at-t.false) says w.value-is
    ] in
    let two : c.if-all_zero.value ≡ eqb (word tr 0) t and zeros (drop 8 tr) and ltb (sat_back tr) t = elim c.if-all_zero.branch [
      | then-all_zero w ↦ met w.if-all_zero.true one w.value-is (ap (λ n. ltb n t) w.sat_back.ensures.0)
      | else-all_zero w ↦ unmet _ w.if-all_zero.false one w.value-is
    ] in
    met c.if-sat_back-t.true two refl (ap (λ n. ltb n t) c.dir_back.ensures.0)

pub returns-else-sat_back-t : goal.returns-else-sat_back-t
returns-else-sat_back-t c =
    let tr = c.args.tr.now in
    let t = c.args.t in
    let rest : take (256 - 8) (drop 8 tr) ≡ drop 8 tr = ap (λ (n : ℕ). take (n - 8) (drop 8 tr)) (sym c.told-tr) ∙ lent_rest 8 tr in
    let says : eqb c.word_at.result t ≡ eqb (word tr 0) t = ap (λ n. eqb n t) c.word_at.ensures.0 in
    let one : c.if-word_at-t.value ≡ eqb (word tr 0) t and zeros (drop 8 tr) = elim c.if-word_at-t.branch [
      | then-word_at-t w ↦ met (eq-eqb _ _ w.if-word_at-t.true) says w.value-is (w.all_zero.ensures ∙ ap zeros rest)
      | else-word_at-t w ↦ unmet _ (ne_eqb _ _ w.if-word_at-t.false) says w.value-is
    ] in
    let two : c.if-all_zero.value ≡ eqb (word tr 0) t and zeros (drop 8 tr) and ltb (sat_back tr) t = elim c.if-all_zero.branch [
      | then-all_zero w ↦ met w.if-all_zero.true one w.value-is (ap (λ n. ltb n t) w.sat_back.ensures.0)
      | else-all_zero w ↦ unmet _ w.if-all_zero.false one w.value-is
    ] in
    unmet _ c.if-sat_back-t.false two refl
