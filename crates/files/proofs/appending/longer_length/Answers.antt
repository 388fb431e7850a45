use mathlib.Core.Path.{ap, ◌∙◌}
use Prim.Native.Nat.{ℕ}
use native.Mathlib.Omega.{arith}
use lib.ListN.{length}
use Rattle.lists.specs.Parts.{sector}
use Rattle.records.specs.Records.{encoded}
use Rattle.ownership.specs.Blocks.{stream_length}
use Rattle.files.proofs.appending.AppendNumbers.{adds_fab, adds_short, adds_longer, adds_low}
use Rattle.files.proofs.appending.longer_length.Goals as goal

pub stream_end-end-requires : goal.stream_end-end-requires
stream_end-end-requires c = rw (c.start.ensures.0, c.entry_of-e.ensures) (adds_fab _ c.args.p c.args.k _ c.requires)

pub encoded_length-requires : goal.encoded_length-requires
encoded_length-requires c = adds_short _ c.args.p c.args.k _ c.requires

pub overflow_add-result : goal.overflow_add-result
overflow_add-result c =
    let a = c.args in
    let q = adds_longer a.img.now a.p a.k a.r.now c.requires _ _
    (c.stream_end-end.ensures.0 ∙ ap (λ (i : ℕ). stream_length (sector i a.img.now)) (rw c.entry_of-e.ensures at c.start.ensures.0))
    (c.encoded_length.ensures ∙ ap (λ (l : ℕ). length (encoded l a.r.now)) (rw c.entry_of-e.ensures at c.record_length.ensures.0)) in
    omega (arith, adds_low a.img.now a.p a.k a.r.now c.requires)

pub returns : goal.returns
returns c =
    let a = c.args in
    let q = adds_longer a.img.now a.p a.k a.r.now c.requires _ _
    (c.stream_end-end.ensures.0 ∙ ap (λ (i : ℕ). stream_length (sector i a.img.now)) (rw c.entry_of-e.ensures at c.start.ensures.0))
    (c.encoded_length.ensures ∙ ap (λ (l : ℕ). length (encoded l a.r.now)) (rw c.entry_of-e.ensures at c.record_length.ensures.0)) in
    q
