use mathlib.Core.Path.{◌≡◌, sym, ◌∙◌}
use Prim.Native.Nat.{◌-◌, min}
use native.Mathlib.Omega.{arith}
use lib.ListN.{length, take, drop}
use borrow.Author.Rules.{rules}
use Rattle.std.proofs.lemmas.List.{length-drop, take_all, drop_min}
use Rattle.luns.proofs.Arrays.{length_of_map}
use Rattle.luns.proofs.Steps.{all_as}
use Rattle.luns.proofs.Lun.agrees_from.Goals as goal

pub returns : goal.returns
returns c =
    let us = c.args.luns.now in
    let long : length us ≡ 16 =
    search (rules, length_of_map) in
    let from : c.min.result ≡ min c.args.from (length us) =
    rw long c.min.ensures in
    let cut : take (16 - c.min.result) (drop c.min.result us) ≡ drop c.min.result us =
    take_all _ _ (omega (arith, long, length-drop c.min.result us)) in
    c.agrees_with.ensures ∙ rw (cut, from, drop_min c.args.from us) (sym (all_as _ _))
