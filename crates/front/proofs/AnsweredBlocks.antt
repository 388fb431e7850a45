-- A request block with its answer in it.
use mathlib.Core.Path.{◌≡◌, ap, ◌∙◌}
use mathlib.Core.List.{List, [], ◌∷◌}
use Prim.Native.Nat.{ℕ}
use native.Mathlib.Omega.{arith}
use borrow.Author.Tests.{eq-eqb}
use lib.ListN.{length, set}
use Rattle.lists.specs.Parts.{put, bytes4}
use Rattle.lists.proofs.Puts.{put_one}
use Rattle.desk.specs.Answers.{Answer}
use Rattle.desk.specs.Answers.{status, moved}
use Rattle.front.specs.Blocks.{block_size, block_after}

-- the status and then the length are written
pub Answer-written : (a : Answer) (b : List ℕ) (st n : ℕ) → length b ≡ block_size → st ≡ status a → n ≡ moved a → put 0x14 (bytes4 n) (set b 4 st) ≡ block_after a b
unfolding block_after
Answer-written a b st n e es en =
    rw (eq-eqb (length b) block_size e)
    (ap (λ (l : List ℕ). put 0x14 (bytes4 n) l) (put_one 4 st b (omega arith)) ∙ (λ i. put 0x14 (bytes4 (en i)) (put 4 (es i ∷ []) b)))
