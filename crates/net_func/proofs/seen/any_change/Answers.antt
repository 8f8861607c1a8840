use Rattle.std.proofs.Common.{rules, ◌≡◌, Err, List, length, map, ap, subst, arith}
use Rattle.func_core.specs.Trees.{BooleanFunction}
use Rattle.func_core.specs.Numbers.{Means}
use Rattle.func_core.specs.declared.functions.FuncFault.TheVariants.{TooBig}
use Rattle.net_func.specs.Signals.{seen_among}
use Rattle.net_func.specs.Changes.{ChangeStands, shown_by}
use Rattle.net_func.proofs.Making.{all_at, making_more}
use Rattle.net_func.proofs.Seeing.{item_is, mapped_length, take-whole, change_stays, more_point, none_seen, big_change}
use Rattle.net_func.proofs.seen.any_change.Goals as goal

pub loop-change-init : goal.loop-change-init
loop-change-init g c =
    none_seen g.F.Functions.holds g.F.Functions.tree g.F.Functions.limit c.args.functions.now
    c.constant.new.self c.in_ok-seen.seen c.args.changes.now
    c.in_ok-seen.ensures.stays c.in_ok-seen.ensures.ok

pub add_change-requires-clause-change : goal.add_change-requires-clause-change
add_change-requires-clause-change g c =
    change_stays g.F.Functions.holds g.F.Functions.tree g.F.Functions.limit c.args.functions.now
    c.loop-change.functions _ c.loop-change.invariant.stays
    (all_at (ChangeStands g.F.Functions.holds c.args.functions.now) c.args.changes.now
    c.loop-change.change-index _ c.requires.stand c.loop-change-test.true)

pub returns-in_err-seen-2-clause-big : goal.returns-in_err-seen-2-clause-big
returns-in_err-seen-2-clause-big g c = λ h.
    let same : c.from_residual-in_err-seen-2.result ≡ Err c.in_err-seen-2.field-0.0 = search rules
    in
    let gone : c.in_err-seen-2.field-0.0 ≡ TooBig = cc in
    big_change g.F.Functions.holds g.F.Functions.tree g.F.Functions.limit c.args.functions.now
    c.loop-change.functions c.loop-change.seen c.args.changes.now
    c.loop-change.change-index _ c.loop-change.invariant c.requires.stand c.loop-change-test.true
    (item_is c.args.changes.now c.loop-change.change-index _ c.loop-change-test.true)
    (c.in_err-seen-2.ensures.big (ap Err gone))

pub loop-change-preserved : goal.loop-change-preserved
loop-change-preserved g c =
    making_more g.F.Functions.holds g.F.Functions.tree g.F.Functions.limit c.args.functions.now
    c.loop-change.functions c.add_change.new.functions
    c.in_ok-seen-2.seen _ _ c.loop-change.invariant.stays c.in_ok-seen-2.ensures.stays
    c.in_ok-seen-2.ensures.ok
    (more_point g.F.Functions.holds g.F.Functions.tree g.F.Functions.limit c.args.functions.now
    c.loop-change.functions c.loop-change.seen c.args.changes.now
    c.loop-change.change-index _ c.loop-change.invariant c.requires.stand c.loop-change-test.true
    (item_is c.args.changes.now c.loop-change.change-index _ c.loop-change-test.true))

pub returns-clause-ok : goal.returns-clause-ok
returns-clause-ok g c =
    let long : length (map (shown_by g.F.Functions.tree c.args.functions.now) c.args.changes.now)
    ≡ length c.args.changes.now =
    mapped_length (shown_by g.F.Functions.tree c.args.functions.now) c.args.changes.now in
    let whole : c.loop-change.change-index
    ≡ length (map (shown_by g.F.Functions.tree c.args.functions.now) c.args.changes.now) =
    omega (arith, long, c.loop-change-test.false, c.loop-change.auto.change-index-end) in
    subst (λ (fs : List BooleanFunction). Means g.F.Functions.holds g.F.Functions.tree
    g.F.Functions.limit c.loop-change.functions c.loop-change.seen.0 (seen_among fs))
    (take-whole (map (shown_by g.F.Functions.tree c.args.functions.now) c.args.changes.now)
    c.loop-change.change-index whole)
    c.loop-change.invariant.means
