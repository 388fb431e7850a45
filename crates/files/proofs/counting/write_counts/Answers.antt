use mathlib.Core.Path.{◌≡◌, refl, ap, sym, ◌∙◌}
use Prim.Native.Nat.{ℕ, ◌*◌}
use native.Mathlib.Omega.{arith}
use lib.ListN.{length}
use Rattle.volume.proofs.EntriesMade.{made_to}
use Rattle.files.specs.Changes.{counted_in}
use Rattle.files.proofs.counting.CountLoops.{up_first, up_last, up_long, up_next}
use Rattle.files.proofs.counting.write_counts.Goals as goal

pub loop-k-init : goal.loop-k-init
loop-k-init c = (refl, omega arith, sym (up_first c.args.img.now c.args.p c.requires.0))

pub loop-k-preserved : goal.loop-k-preserved
loop-k-preserved c =
    let l = c.loop-k in
    let more = up_next c.args.img.now c.args.p c.requires.0 l.k (omega arith) _ _ _ (c.requires.2 l.k (omega arith)).0 l.invariant.2
    c.put_count.ensures in
    (ap length more ∙ up_long c.args.img.now c.args.p c.requires.0 _ (omega arith), omega arith, more)

pub returns : goal.returns
returns c =
    let l = c.loop-k in
    let e : l.k ≡ 8 * c.args.p.dirs = omega arith in
    l.invariant.2 ∙ ap (λ (n : ℕ). made_to (counted_in c.args.img.now) c.args.img.now n) e ∙ up_last c.args.img.now c.args.p c.requires.0
