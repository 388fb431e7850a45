use mathlib.Core.Path.{refl, ap, ◌∙◌}
use mathlib.Core.List.{[]}
use Prim.Native.Nat.{◌≤◌}
use native.Mathlib.Omega.{arith}
use lib.ListN.{length}
use Rattle.std.proofs.lemmas.Result.{err_from_is_err_and}
use Rattle.volume.specs.Directory.{entries, unused}
use Rattle.volume.specs.Code.Used.{used_entries}
use Rattle.volume.proofs.used.UsedSlots.{flat_used, listed_few, listed_length, listed_used}
use Rattle.ownership.specs.Owners.{owned}
use Rattle.ownership.proofs.ClaimsFollow.{Rest-fails, Rest-more, Rest-none}
use Rattle.ownership.proofs.OwnedRuns.{placed_used, owned-unused}
use Rattle.ownership.proofs.owners.claim_entries.Goals as goal

pub loop-i-init : goal.loop-i-init
unfolding used_entries
loop-i-init c =
    (omega arith, refl, (λ r m q. rw (flat_used (owned _) (entries _) (λ e u. owned-unused _ e u)) q))

pub claim_entry-requires : goal.claim_entry-requires
claim_entry-requires c =
    let l = c.loop-i in
    let u = c.args.u.now in
    let img = u.volume.img.now in
    let g = c.entry.ensures in
    let h = listed_few img _ u.volume.located _ u.listed l.i (omega arith) in
    (l.invariant.1 ∙ c.requires.0, rw g (placed_used img l.i c.requires.1 h), ap unused g ∙ listed_used img _ u.volume.located _ u.listed l.i (omega arith))

pub returns-in_err-claim_entry : goal.returns-in_err-claim_entry
returns-in_err-claim_entry c =
    let l = c.loop-i in
    let u = c.args.u.now in
    let img = u.volume.img.now in
    let h = listed_few img _ u.volume.located _ u.listed l.i (omega arith) in
    let p = err_from_is_err_and c.from_residual.result c.from_residual.ensures.1 in
    rw p.1 (l.invariant.2 _ _ (Rest-fails (owned img) (used_entries img) [] h (rw (c.entry.ensures, c.in_err-claim_entry.was) at c.claim_entry.ensures)))

pub loop-i-preserved : goal.loop-i-preserved
loop-i-preserved c =
    let l = c.loop-i in
    let u = c.args.u.now in
    let img = u.volume.img.now in
    let h = listed_few img _ u.volume.located _ u.listed l.i (omega arith) in (
      omega arith,
      c.claim_entry.auto.marks ∙ l.invariant.1,
      (λ r m z. l.invariant.2 r m (Rest-more (owned img) (used_entries img) [] h (rw (c.entry.ensures, c.in_ok-claim_entry.was) at c.claim_entry.ensures) z)),
    )

pub returns : goal.returns
returns c =
    let l = c.loop-i in
    let u = c.args.u.now in
    let img = u.volume.img.now in
    let n : length (used_entries img) ≤ l.i = omega (arith, listed_length img _ u.listed) in
    l.invariant.2 _ _ (Rest-none (owned img) (used_entries img) [] n)
