use native.Mathlib.Omega.{arith}
use borrow.Author.Rules.{rules}
use Rattle.ownership.proofs.ClaimedBits.{bits_none, bits_fail, bits_fit, bits_met}
use Rattle.ownership.proofs.owners.claim_bits.Goals as goal

pub returns-then-n-eq0 : goal.returns-then-n-eq0
returns-then-n-eq0 c = bits_none _ _ _ c.if-n-eq0.true

pub returns-then-b-k-ne0 : goal.returns-then-b-k-ne0
returns-then-b-k-ne0 c =
    bits_fail _ _ c.args.n (λ i. (c.type_inv.marks i).fits) (omega arith) c.if-n-eq0.false c.requires.2 c.if-b-k-ne0.true

pub overflow_add-marks : goal.overflow_add-marks
overflow_add-marks c =
    record {
      fits = bits_fit c.args.marks.now c.args.s c.args.n (λ i. search rules) (omega arith)
          c.if-n-eq0.false c.requires.2 c.if-b-k-ne0.false _ (omega arith);
    }

pub returns : goal.returns
returns c =
    bits_met _ _ c.args.n (λ i. search rules) (omega arith) c.if-n-eq0.false c.requires.2 c.if-b-k-ne0.false
