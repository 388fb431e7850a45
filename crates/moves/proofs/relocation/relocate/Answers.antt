use Rattle.std.proofs.Common.{◌≡◌, false, is_ok, rules}
use native.Mathlib.Omega.{arith}
use Rattle.moves.proofs.relocation.MoveSteps.{block_in, block_asks, is_answer, is_relocated, moves_sectors}
use Rattle.moves.proofs.relocation.relocate.Goals as goal

pub sector_of-requires : goal.sector_of-requires
sector_of-requires c = omega (arith, block_in _ _ _ _ _ _ c.requires, rw c.entry_of.ensures at c.start-s.ensures.0)

pub reroute-requires : goal.reroute-requires
reroute-requires c =
    let q = block_asks _ _ _ _ _ _ c.requires _ (rw c.entry_of.ensures at c.start-s.ensures.0) _ c.sector_of.ensures in
    (q.0, q.1)

pub returns-in_err-block-clause-answer : goal.returns-in_err-block-clause-answer
returns-in_err-block-clause-answer c =
    let start = rw c.entry_of.ensures at c.start-s.ensures.0 in
    let block = c.sector_of.ensures in
    let k : is_ok c.from_residual.result ≡ false = search rules in
    rw k (is_answer _ _ _ _ _ _ c.requires _ start _ block _ _ (rw c.in_err-block.was) c.reroute.ensures.answer)

pub write_move-requires : goal.write_move-requires
write_move-requires c =
    let start = rw c.entry_of.ensures at c.start-s.ensures.0 in
    moves_sectors _ _ _ _ _ _ c.requires _ start

pub returns : goal.returns
returns c =
    let start = rw c.entry_of.ensures at c.start-s.ensures.0 in
    let block = c.sector_of.ensures in
    let reroute = c.reroute.ensures in
    let yes = c.in_ok-block.was in
    record {
      answer = is_answer _ _ _ _ _ _ c.requires _ start _ block _ _ (rw yes) reroute.answer;
      image = is_relocated _ _ _ _ _ _ c.requires _ start _ block _ _ (rw yes at reroute.made) c.write_move.ensures;
    }
