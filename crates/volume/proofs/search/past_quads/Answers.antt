use mathlib.Core.Path.{◌≡◌, ◌∙◌, sym}
use Prim.Native.Nat.{◌*◌, ◌/◌}
use native.Mathlib.Omega.{arith}
use Rattle.volume.proofs.Searches.TableQuads.{Passed-more, Passed-none}
use Rattle.volume.proofs.search.past_quads.Goals as goal

pub returns-then-q-ne0 : goal.returns-then-q-ne0
returns-then-q-ne0 c = Passed-none _ _ c.requires

pub loop-j-init : goal.loop-j-init
loop-j-init c = let e : c.args.q ≡ 8 * (c.args.q / 8) = omega (arith, c.if-q-ne0.false) in rw (← e) (Passed-none _ _ c.requires)

pub returns-then-quad_at : goal.returns-then-quad_at
returns-then-quad_at c = c.loop-j.invariant

pub loop-j-preserved : goal.loop-j-preserved
loop-j-preserved c =
    Passed-more _ c.fits-sat _ _ c.loop-j-test.true c.loop-j.invariant (sym c.quad_at.ensures ∙ c.if-quad_at.false)

pub returns : goal.returns
returns c = let e : 8 * c.loop-j.j ≡ 256 = omega (arith, c.loop-j.invariant.to) in rw e at c.loop-j.invariant
