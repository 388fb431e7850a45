use mathlib.Core.Path.{◌≡◌, sym, ◌∙◌}
use native.Mathlib.Omega.{arith}
use lib.ListN.{length}
use Rattle.std.proofs.Common.{rules}
use Rattle.std.specs.List.{sum_by}
use Rattle.std.proofs.lemmas.Iterator.{YieldsList-from_slice, YieldsList-from_map}
use Rattle.std.proofs.lemmas.Iterator.Consumers.{sum_by_from_yields_List}
use Rattle.text.specs.Packing.{shown, unpacked}
use Rattle.text.proofs.PackedLength.{unpacked_long}
use Rattle.text.proofs.UnpackingSteps.{length_unpacked}
use Rattle.text.proofs.unpacking.text_length.Goals as goal

pub returns : goal.returns
returns c =
    let s = c.args.stored.now in
    let e : c.sum.result ≡ sum_by (λ b. length (shown b)) s =
    sum_by_from_yields_List (λ b. length (shown b)) s _ _ c.sum.ensures.ran
    (YieldsList-from_map _ (λ b. length (shown b)) (YieldsList-from_slice s cc) (cc) (λ x r q k. search rules)) in
    let n : c.sum.result ≡ length (unpacked s) = e ∙ sym (length_unpacked s) in
    (n, rw n (unpacked_long s (λ i. omega (arith, c.type_inv.stored i))))
