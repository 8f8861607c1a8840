use Rattle.std.proofs.Common.{Bool, ◌&&◌, ◌+◌, refl, sym, ap, ◌∙◌, arith}
use Rattle.net_resub.proofs.Over.{rest_over, no_more, told_more}
use Rattle.net_resub.proofs.pairs.is_row_over.Goals as goal

pub loop-place-init : goal.loop-place-init
loop-place-init g c = refl

pub returns-then-not-is_dash_or_among : goal.returns-then-not-is_dash_or_among
returns-then-not-is_dash_or_among g c =
    let step =
    told_more c.args.names.now c.args.inputs.now (g.R.Row.literals c.args.row.now) c.loop-place.place c.index-inputs-place.result c.item_at.result c.is_dash_or_among.result
    (c.loop-place.place + 1) (omega (arith)) c.loop-place-test.true c.index-inputs-place.is c.item_at.ensures c.is_dash_or_among.ensures in
    sym
    (c.loop-place.invariant
    ∙ (step ∙ ap (λ (b : Bool). b && rest_over c.args.names.now c.args.inputs.now (g.R.Row.literals c.args.row.now) (c.loop-place.place + 1)) c.if-not-is_dash_or_among.true))

pub loop-place-preserved : goal.loop-place-preserved
loop-place-preserved g c =
    let step =
    told_more c.args.names.now c.args.inputs.now (g.R.Row.literals c.args.row.now) c.loop-place.place c.index-inputs-place.result c.item_at.result c.is_dash_or_among.result
    (c.loop-place.place + 1) (omega (arith)) c.loop-place-test.true c.index-inputs-place.is c.item_at.ensures c.is_dash_or_among.ensures in
    c.loop-place.invariant
    ∙ (step ∙ ap (λ (b : Bool). b && rest_over c.args.names.now c.args.inputs.now (g.R.Row.literals c.args.row.now) (c.loop-place.place + 1)) c.if-not-is_dash_or_among.false)

pub returns : goal.returns
returns g c = sym (c.loop-place.invariant ∙ no_more c.args.names.now c.args.inputs.now (g.R.Row.literals c.args.row.now) c.loop-place.place c.loop-place-test.false)
