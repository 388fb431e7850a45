use Rattle.std.proofs.Common.{is_ok, not, refl, ap, ◌∙◌}
use Rattle.compaction.proofs.closing.GoingOn.{Going-start, found_highest, found_lowest, going_settled, going_used, going_next, going_stuck, Going-on}
use Rattle.compaction.proofs.closing.close_up.Goals as goal

pub loop-hi-init : goal.loop-hi-init
loop-hi-init c = Going-start _ _ _ _ c.requires

pub next_free-lo-requires : goal.next_free-lo-requires
next_free-lo-requires c =
    let g = c.loop-hi.invariant in
    g.tabled.located.high

pub returns-then-hi-lo : goal.returns-then-hi-lo
returns-then-hi-lo c =
    let g = c.loop-hi.invariant in
    let h = found_highest _ _ _ _ _ _ _ _ g _ _ refl c.highest-hi.ensures in
    let l = found_lowest _ _ _ _ _ _ _ _ g _ _ c.sector_of.ensures c.next_free-lo.ensures in
    going_settled _ _ _ _ _ _ _ _ g _ _ h l c.if-hi-lo.true

pub returns-then-moved-quota : goal.returns-then-moved-quota
returns-then-moved-quota c =
    let g = c.loop-hi.invariant in
    let h = found_highest _ _ _ _ _ _ _ _ g _ _ refl c.highest-hi.ensures in
    let l = found_lowest _ _ _ _ _ _ _ _ g _ _ c.sector_of.ensures c.next_free-lo.ensures in
    going_used _ _ _ _ _ _ _ _ g _ _ h l c.if-hi-lo.false c.if-moved-quota.true

pub advance-requires : goal.advance-requires
advance-requires c =
    let g = c.loop-hi.invariant in
    let h = found_highest _ _ _ _ _ _ _ _ g _ _ refl c.highest-hi.ensures in
    let l = found_lowest _ _ _ _ _ _ _ _ g _ _ c.sector_of.ensures c.next_free-lo.ensures in
    going_next _ _ _ _ _ _ _ _ g _ _ h l c.if-hi-lo.false

pub returns-then-is_err : goal.returns-then-is_err
returns-then-is_err c =
    let g = c.loop-hi.invariant in
    let h =
    found_highest _ _ _ _ _ _ _ _ g _ _ refl c.highest-hi.ensures in
    let l =
    found_lowest _ _ _ _ _ _ _ _ g _ _ c.sector_of.ensures
    c.next_free-lo.ensures in
    going_stuck _ _ _ _ _ _ _ _ g _ _ h l c.if-hi-lo.false
    c.if-moved-quota.false (is_ok c.advance.result) _ _ c.advance.ensures (c.is_err.ensures.negation ∙ ap not c.if-is_err.true)

pub loop-hi-preserved : goal.loop-hi-preserved
loop-hi-preserved c =
    let g = c.loop-hi.invariant in
    let h =
    found_highest _ _ _ _ _ _ _ _ g _ _ refl c.highest-hi.ensures in
    let l =
    found_lowest _ _ _ _ _ _ _ _ g _ _ c.sector_of.ensures
    c.next_free-lo.ensures in
    Going-on _ _ _ _ _ _ _ _ g _ _ h l c.if-hi-lo.false
    c.if-moved-quota.false (is_ok c.advance.result) _ _ c.advance.ensures (c.is_err.ensures.negation ∙ ap not c.if-is_err.false)
