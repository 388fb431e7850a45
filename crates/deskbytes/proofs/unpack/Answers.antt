use mathlib.Core.Path.{sym, ap, ◌∙◌}
use mathlib.Core.List.{List, [], map}
use Prim.Native.Nat.{ℕ}
use native.Mathlib.Omega.{arith}
use lib.ListN.{get_or, length-set}
use lib.Seq.{take_all}
use Rattle.numbers.specs.Numbers.{lun_count}
use Rattle.lists.specs.Lists.{pieces}
use Rattle.lists.proofs.Pieces.{length-pieces}
use Rattle.deskbytes.specs.DeskBytes.{unpacked_lun, unpacked_luns, lun_bytes}
use Rattle.deskbytes.proofs.Filling.{chunks_are, map-set}
use Rattle.deskbytes.proofs.unpack.Goals as goal

pub loop-k-preserved : goal.loop-k-preserved
loop-k-preserved c =
    let l = c.loop-k in
    let b = c.args.bytes.now in
    let e = chunks_are b _ c.requires c.as_chunks.ensures.front in
    let n = length-pieces lun_count lun_bytes b in
    let f = c.as_chunks.ensures.front_len in (
      length-set l.luns l.k _ ∙ l.invariant.0,
      map-set unpacked_lun (pieces lun_count lun_bytes b) l.k [] l.luns _ (omega arith) (omega arith)
          (c.unpacked_lun.ensures ∙ ap (λ (ps : List (List ℕ)). unpacked_lun (get_or ps l.k [])) e) l.invariant.1,
    )

pub returns : goal.returns
unfolding unpacked_luns
returns c =
    let l = c.loop-k in
    let f = c.as_chunks.ensures.front_len in
    let n = length-pieces lun_count lun_bytes c.args.bytes.now in
    sym (take_all l.k l.luns (omega arith)) ∙ l.invariant.1 ∙ ap (map unpacked_lun) (take_all l.k _ (omega arith))
