use mathlib.Core.Path.{◌∙◌, sym}
use native.Mathlib.Omega.{arith}
use Rattle.lists.proofs.FirstFound.{first_end}
use Rattle.volume.proofs.Searches.SearchStops.{found_none}
use Rattle.volume.proofs.Searches.TableQuads.{stops, goes_on}
use Rattle.volume.proofs.search.next_free.Goals as goal

pub returns-then-t-from : goal.returns-then-t-from
returns-then-t-from c = sym (first_end _ _ _ c.if-t-from.true)

pub loop-i-init : goal.loop-i-init
loop-i-init c = (omega arith, omega arith, (λ s l g. absurd (omega arith)))

pub returns-then-k-lt8 : goal.returns-then-k-lt8
returns-then-k-lt8 c =
    let l = c.loop-i in
    let e = c.first_clear-k.ensures in
    c.min.ensures ∙ stops _ c.fits-sat _ _ e _ l.invariant.0 l.invariant.2 _ (omega arith) c.if-k-lt8.true

pub overflow_mul-i : goal.overflow_mul-i
overflow_mul-i c = record { fits = omega (arith, c.past_quads-i.ensures.to) }

pub loop-i-smaller : goal.loop-i-smaller
loop-i-smaller c = omega (arith, c.past_quads-i.ensures.from)

pub loop-i-preserved : goal.loop-i-preserved
loop-i-preserved c =
    let l = c.loop-i in
    let e = c.first_clear-k.ensures in
    let p = c.past_quads-i.ensures in
    (omega (arith, p.from), l.invariant.1, goes_on _ c.fits-sat _ _ e _ l.invariant.0 l.invariant.2 _ c.if-k-lt8.false p)

pub returns : goal.returns
returns c =
    let l = c.loop-i in
    sym (found_none _ _ _ (omega (arith, l.invariant.1)) (λ s f g. l.invariant.2 s f (omega arith)))
