use mathlib.Core.Bool.{true≢false}
use mathlib.Core.List.{[]}
use mathlib.Core.Path.{refl, ap, sym, ◌∙◌}
use Prim.Native.Nat.{◌<◌}
use native.Mathlib.Omega.{arith}
use lib.ListN.{length, length-set}
use Rattle.lists.proofs.Walks.{all_stop, all_more, all_end}
use Rattle.volume.specs.Directory.{entries, entry_at}
use Rattle.volume.proofs.Slots.{length-entries}
use Rattle.files.specs.Code.Verdict.{file_before, records_before, count_before}
use Rattle.files.proofs.map.OpenBlock.{Opens-at}
use Rattle.files.proofs.counting.CountLoops.{counted_whole, counted_broken, one_more, not_ok}
use Rattle.files.proofs.counting.count_all.Goals as goal

pub loop-k-init : goal.loop-k-init
loop-k-init c = (omega arith, refl, refl, λ j h. absurd (omega arith))

pub count_before-requires : goal.count_before-requires
count_before-requires c =
    let img = c.args.img.now in
    let k = c.loop-k.k in
    let q = c.entry_of.ensures in
    λ u v. rw q (Opens-at img _ c.requires.0 c.requires.1 c.requires.2 k (omega arith) (rw q at u) (rw q at v))

pub returns-in_err-counts : goal.returns-in_err-counts
unfolding entry_at
returns-in_err-counts c =
    let l = c.loop-k in
    let img = c.args.img.now in
    let n : l.k < length (entries img) = omega (arith, length-entries img, c.requires.0.is_dirs) in
    let found = ap (count_before img) (sym c.entry_of.ensures) ∙ sym c.count_before.ensures ∙ c.in_err-counts.ensures.ok_part in
    let bad = l.invariant.2 ∙ all_stop (file_before img) (entries img) [] l.k n (counted_broken img (entry_at img l.k) found) in
    let refused = not_ok c.from_residual.result c.from_residual.ensures.0 in
    (refused ∙ sym bad, λ t. absurd (true≢false (sym t ∙ refused)))

pub loop-k-preserved : goal.loop-k-preserved
unfolding entry_at
loop-k-preserved c =
    let l = c.loop-k in
    let img = c.args.img.now in
    let n : l.k < length (entries img) = omega (arith, length-entries img, c.requires.0.is_dirs) in
    let found = ap (count_before img) (sym c.entry_of.ensures) ∙ sym c.count_before.ensures
    ∙ c.in_ok-counts.ensures.ok_part in
    let known = counted_whole img (entry_at img l.k) _ found in (
      omega arith,
      length-set l.counts l.k _ ∙ l.invariant.1,
      l.invariant.2 ∙ all_more (file_before img) (entries img) [] l.k n known.0,
      one_more (λ j. records_before img (entry_at img j)) l.counts l.k _ l.invariant.3 (omega (arith, l.invariant.1, c.requires.3)) known.1,
    )

pub returns : goal.returns
returns c =
    let l = c.loop-k in
    let img = c.args.img.now in (
      sym (l.invariant.2 ∙ all_end (file_before img) (entries img) l.k (omega (arith, length-entries img, c.requires.0.is_dirs))),
      λ t k h. l.invariant.3 k (omega arith),
    )
