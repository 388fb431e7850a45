use mathlib.Core.Path.{sym, ◌≡◌, ap, ◌∙◌}
use native.Mathlib.Omega.{arith}
use mathlib.Core.Bool.{true, false}
use Prim.Native.Nat.{ℕ, ◌-◌}
use lib.ListN.{length, get_or, take, drop}
use Rattle.lists.proofs.LentParts.{lent_rest}
use Rattle.std.specs.Char.{is_ascii_uppercase}
use Rattle.lists.specs.Lists.{◌and◌}
use Rattle.lists.proofs.Bools.{and_is}
use Rattle.volume.specs.Names.{name_end, letter}
use Rattle.volume.proofs.NameBytes.{name_none, name_is}
use Rattle.volume.proofs.names.name.Goals as goal

letter_is : (c : ℕ) → is_ascii_uppercase c ≡ letter c
unfolding letter
letter_is c = and_is _ _

pub returns-in-empty : goal.returns-in-empty
returns-in-empty c = sym (name_none _ (omega (arith, c.in-empty.len_below)))

pub returns-then-is_ascii_uppercase : goal.returns-then-is_ascii_uppercase
unfolding ◌and◌
returns-then-is_ascii_uppercase c =
    let s = c.args.s.now in
    let h : letter (get_or s 0 0) ≡ true = sym (letter_is _) ∙ sym c.is_ascii_uppercase.ensures.value ∙ c.if-is_ascii_uppercase.true in
    let k : c.name_end.result ≡ name_end (take (length s - 1) (drop 1 s)) = c.name_end.ensures in
    k ∙ ap name_end (lent_rest 1 s) ∙ sym (name_is s (omega (arith, c.in-len1-up.len_at_least)) ∙ rw h)

pub returns-else-is_ascii_uppercase : goal.returns-else-is_ascii_uppercase
unfolding ◌and◌
returns-else-is_ascii_uppercase c =
    let s = c.args.s.now in
    let h : letter (get_or s 0 0) ≡ false = sym (letter_is _) ∙ sym c.is_ascii_uppercase.ensures.value ∙ c.if-is_ascii_uppercase.false in
    c.if-is_ascii_uppercase.false ∙ sym (name_is s (omega (arith, c.in-len1-up.len_at_least)) ∙ rw h)
