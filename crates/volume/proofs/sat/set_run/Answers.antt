use native.Mathlib.Omega.{arith}
use borrow.Author.Rules.{rules}
use Rattle.volume.proofs.SatRuns.{with_bits_run, bit_of-lt}
use Rattle.volume.proofs.sat.set_run.Goals as goal

pub returns : goal.returns
returns c =
    with_bits_run _ _ _ _ _ (bit_of-lt c.args.mark) (λ i. search rules) c.requires.0 c.args.s c.args.n _ _ c.requires.1
    (omega arith) (omega arith) (omega arith) c.set_bits-2.ensures (rw c.byte.ensures at c.fill.ensures) c.set_bits-3.ensures
