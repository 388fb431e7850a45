use native.Mathlib.Omega.{arith}
use Rattle.volume.proofs.Searches.NumberBits.{trailing_clear, trailing_set, counts_fit}
use Rattle.volume.proofs.quads.set_end.Goals as goal

pub overflow_cast-result : goal.overflow_cast-result
overflow_cast-result c = record { fits = omega (arith, counts_fit 64 c.args.x) }

pub overflow_sub-result : goal.overflow_sub-result
overflow_sub-result c = omega (arith, counts_fit 64 c.args.x)

pub returns : goal.returns
returns c =
    let x = c.args.x in
    record {
      within = omega arith;
      clear = λ k h g. trailing_clear 64 x k g (omega arith);
      last = λ k e. trailing_set 64 x k (omega (arith, counts_fit 64 x));
    }
