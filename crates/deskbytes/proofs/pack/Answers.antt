use mathlib.Core.Path.{◌≡◌, refl, sym, ap, ◌∙◌}
use Prim.Native.Nat.{◌+◌, ◌*◌}
use native.Mathlib.Omega.{arith}
use lib.ListN.{length, take, get_or}
use lib.Seq.{take_all}
use borrow.Author.Rules.{rules}
use Rattle.lists.specs.Lists.{flat}
use Rattle.lists.proofs.LentParts.{wrote}
use Rattle.lists.proofs.Puts.{length-put}
use Rattle.luns.specs.Luns.{free_lun}
use Rattle.luns.proofs.Arrays.{length_of_map}
use Rattle.deskbytes.specs.DeskBytes.{packed_lun, packed_luns, lun_bytes}
use Rattle.deskbytes.proofs.Filling.{flat-put}
use Rattle.deskbytes.proofs.LunBytes.{length-packed_lun}
use Rattle.deskbytes.proofs.pack.Goals as goal

pub loop-k-init : goal.loop-k-init
unfolding flat
loop-k-init c = (c.requires, refl)

pub loop-k-preserved : goal.loop-k-preserved
unfolding free_lun
loop-k-preserved c =
    let long : length c.args.luns ≡ 16 =
    search (rules, length_of_map) in
    let l = c.loop-k in
    let u = get_or c.args.luns l.k free_lun in
    let n = length-packed_lun u in
    let w = wrote (lun_bytes * l.k) (lun_bytes * l.k + lun_bytes) l.out _ (packed_lun u) (omega arith) (c.copy_from_slice.ensures.after ∙ c.packed_lun.ensures) (n ∙ omega arith) in (
      ap length w ∙ length-put (lun_bytes * l.k) (packed_lun u) l.out (omega (arith, n, l.invariant.0)) ∙ l.invariant.0,
      ap (take (lun_bytes * (l.k + 1))) w ∙ flat-put packed_lun lun_bytes c.args.luns l.k free_lun l.out (omega (arith, long)) n (omega (arith, l.invariant.0)) l.invariant.1,
    )

pub returns : goal.returns
unfolding packed_luns
returns c =
    let long : length c.args.luns ≡ 16 =
    search (rules, length_of_map) in
    let l = c.loop-k in
    sym (take_all (lun_bytes * l.k) l.out (omega (arith, l.invariant.0))) ∙ l.invariant.1
    ∙ ap (flat packed_lun) (take_all l.k _ (omega (arith, long)))
