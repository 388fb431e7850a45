use mathlib.Core.Path.{◌≡◌, ap, ◌∙◌}
use mathlib.Core.List.{List}
use Prim.Native.Nat.{ℕ, ◌-◌, ◌+◌, ◌/◌}
use native.Mathlib.Omega.{arith}
use lib.ListN.{length}
use Rattle.lists.specs.Parts.{sector}
use Rattle.lists.proofs.LentParts.{length-sector}
use Rattle.ownership.specs.Blocks.{total}
use Rattle.files.proofs.appending.AppendNumbers.{adds_fab, adds_needed}
use Rattle.files.proofs.appending.needed_sectors.Goals as goal

pub sector_of-f-requires : goal.sector_of-f-requires
sector_of-f-requires c = rw (c.start.ensures.0, c.entry_of.ensures) (adds_fab _ c.args.p c.args.k _ c.requires)

pub total-requires : goal.total-requires
total-requires c =
    omega (arith, ap length c.sector_of-f.ensures ∙ length-sector _ c.args.img.now (rw (c.start.ensures.0, c.entry_of.ensures) (adds_fab _ c.args.p c.args.k _ c.requires)))

pub overflow_sub-result : goal.overflow_sub-result
overflow_sub-result c =
    let a = c.args in
    let q = adds_needed a.img.now a.p a.k a.r.now c.requires _ _ c.longer_length-n.ensures
    (c.total.ensures.0 ∙ ap (λ (f : List ℕ). total f) (c.sector_of-f.ensures ∙ ap (λ (i : ℕ). sector i a.img.now) (rw c.entry_of.ensures at c.start.ensures.0))) in
    omega (arith, c.div_ceil.ensures, q.0)

pub returns : goal.returns
returns c =
    let a = c.args in
    let up : c.div_ceil.result ≡ (c.longer_length-n.result + 255) / 256 = omega (arith, c.div_ceil.ensures) in
    let q = adds_needed a.img.now a.p a.k a.r.now c.requires _ _ c.longer_length-n.ensures
    (c.total.ensures.0 ∙ ap (λ (f : List ℕ). total f) (c.sector_of-f.ensures ∙ ap (λ (i : ℕ). sector i a.img.now) (rw c.entry_of.ensures at c.start.ensures.0))) in
    ap (λ (m : ℕ). m - c.total.result) up ∙ q.1
