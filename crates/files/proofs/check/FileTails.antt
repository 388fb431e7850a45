-- The bytes after a stream: none where the stream ends with its last sector, else the rest of that sector.
use mathlib.Core.Path.{◌≡◌, ap, sym, ◌∙◌}
use mathlib.Core.Bool.{true}
use mathlib.Core.List.{List}
use Prim.Native.Nat.{ℕ, ◌+◌, ◌-◌, ◌*◌, ◌/◌, ◌%◌, ◌<◌, ◌≤◌}
use native.Mathlib.Omega.{arith}
use lib.ListN.{length, get_or, take, drop}
use Rattle.lists.specs.Parts.{zeros, in_sectors, part}
use Rattle.lists.proofs.LentParts.{lent, lent_rest}
use Rattle.lists.proofs.Walks.{all_end}
use Rattle.records.specs.Streams.{laid_out}
use Rattle.records.specs.Code.Mapped.{Mapped}
use Rattle.records.proofs.StreamBytes.{length-laid_out, piece_is}

module _ (img ss : List ℕ) (m : Mapped img ss) (e : ℕ) (n : length ss ≡ in_sectors e) where
  pub no_tail : e % 256 ≡ 0 → zeros (drop e (laid_out img ss)) ≡ true
  unfolding in_sectors
  no_tail z = all_end _ (laid_out img ss) e (omega (arith, length-laid_out img ss m, n))

  pub tail_within : e ≤ 256 * length ss
  unfolding in_sectors
  tail_within = omega (arith, n)

  module _ (some : e % 256 ≡ 0 → ⊥) where
    pub tail_here : e / 256 < length ss
    unfolding in_sectors
    tail_here = omega (arith, n, some)

    pub tail_part : (s : ℕ) → s ≡ get_or ss (e / 256) 0 → take (256 * s + 256 - (256 * s + e % 256)) (drop (256 * s + e % 256) img) ≡ drop e (laid_out img ss)
    unfolding in_sectors part
    tail_part s is =
        let l = length-laid_out img ss m in
        let h = tail_here in
        let k : length (laid_out img ss) - e ≡ 256 - e % 256 = omega (arith, l, n, some) in
        lent (256 * s + e % 256) (256 * s + 256) (256 - e % 256) img (omega arith)
        ∙ ap (λ (u : ℕ). part (256 * u + e % 256) (256 - e % 256) img) is ∙ piece_is img ss m e (256 - e % 256) (omega (arith, h)) (omega arith)
        ∙ ap (λ (u : ℕ). take u (drop e (laid_out img ss))) (sym k) ∙ lent_rest e (laid_out img ss)
