use mathlib.Core.Path.{◌≡◌, sym, ◌∙◌}
use mathlib.Core.Bool.{true, false}
use Rattle.std.specs.Result.{is_ok}
use Rattle.ownership.proofs.OwnersSound.{owned_twice, owned_once}
use Rattle.ownership.proofs.owners.owners_sound.Goals as goal

pub returns-then-is_ok : goal.returns-then-is_ok
returns-then-is_ok c =
    let e : is_ok c.claim_all.result ≡ true = sym c.is_ok.ensures.value ∙ c.if-is_ok.true in
    owned_once _ _ c.args.u.now.volume.located c.requires _ _ (rw e at c.claim_all.ensures) (rw c.table.ensures at c.same_table.ensures)

pub returns-else-is_ok : goal.returns-else-is_ok
returns-else-is_ok c =
    let e : is_ok c.claim_all.result ≡ false = sym c.is_ok.ensures.value ∙ c.if-is_ok.false in
    c.if-is_ok.false ∙ owned_twice _ _ c.args.u.now.volume.located c.requires _ (rw e at c.claim_all.ensures)
