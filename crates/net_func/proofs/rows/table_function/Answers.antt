use Rattle.std.proofs.Common.{rules, ◌≡◌, ◌+◌, Err, length, ap, sym, ◌∙◌, inl, inr, arith}
use Rattle.std.proofs.lemmas.Result.{IfOk-weaker}
use Rattle.func_core.specs.declared.functions.FuncFault.TheVariants.{TooBig}
use Rattle.func_core.proofs.Meanings.{Stays-chain}
use Rattle.net_func.proofs.RowParts.{width-at}
use Rattle.net_func.proofs.Making.{still_stands, sum_none, sum_point, part_point, making_more, big_before, at_phase, off_phase}
use Rattle.net_func.proofs.rows.table_function.Goals as goal

pub loop-row-init : goal.loop-row-init
loop-row-init g c =
    sum_none g.F.Functions.holds g.F.Functions.tree g.F.Functions.limit c.args.functions.now
    c.constant.new.self
    c.in_ok-sum.sum (g.T.Local.local c.args.table.now).rows c.args.inputs.now
    c.in_ok-sum.ensures.stays c.in_ok-sum.ensures.ok

pub row_product-requires-clause-stand : goal.row_product-requires-clause-stand
row_product-requires-clause-stand g c =
    still_stands g.F.Functions.holds g.F.Functions.tree g.F.Functions.limit c.args.functions.now
    c.loop-row.functions c.args.inputs.now
    c.loop-row.invariant.stays c.requires.stand

pub row_product-requires-clause-width : goal.row_product-requires-clause-width
row_product-requires-clause-width g c =
    width-at _ (g.T.Local.local c.args.table.now).rows c.loop-row.row c.requires.width (rw (←
    c.row_count-row-end.ensures) c.loop-row-test.true)

pub returns-in_err-product-clause-big : goal.returns-in_err-product-clause-big
returns-in_err-product-clause-big g c = λ h.
    let same : c.from_residual-in_err-product.result ≡ Err c.in_err-product.field-0.0 = search
    rules in
    let gone : c.in_err-product.field-0.0 ≡ TooBig = cc in
    let part = c.in_err-product.ensures.big (ap Err gone) in
    inl (
      c.loop-row.row,
      part.0,
      big_before g.F.Functions.holds g.F.Functions.tree g.F.Functions.limit c.args.functions.now
          c.loop-row.functions _ _
          c.loop-row.invariant.stays part.1
          (part_point g.F.Functions.holds g.F.Functions.tree g.F.Functions.limit
          c.args.functions.now
          c.loop-row.functions _ c.args.inputs.now
          c.loop-row.invariant.stays c.requires.stand),
    )

pub returns-in_err-sum-2-clause-big : goal.returns-in_err-sum-2-clause-big
returns-in_err-sum-2-clause-big g c = λ h.
    let same : c.from_residual-in_err-sum-2.result ≡ Err c.in_err-sum-2.field-0.0 = search rules in
    let gone : c.in_err-sum-2.field-0.0 ≡ TooBig = cc in
    inr (
      c.loop-row.row + 1,
      big_before g.F.Functions.holds g.F.Functions.tree g.F.Functions.limit c.args.functions.now
          c.row_product.new.functions _ _
          (Stays-chain g.F.Functions.holds g.F.Functions.tree g.F.Functions.limit _ _ _
          c.loop-row.invariant.stays c.in_ok-product.ensures.stays)
          (c.in_err-sum-2.ensures.big (ap Err gone))
          (sum_point g.F.Functions.holds g.F.Functions.tree g.F.Functions.limit c.args.functions.now
          c.loop-row.functions c.row_product.new.functions
          c.loop-row.sum c.in_ok-product.product (g.T.Local.local c.args.table.now).rows
          c.args.inputs.now c.loop-row.row
          c.loop-row.invariant c.requires.stand (rw (← c.row_count-row-end.ensures)
          c.loop-row-test.true) c.in_ok-product.ensures.stays c.in_ok-product.ensures.ok),
    )

pub loop-row-preserved : goal.loop-row-preserved
loop-row-preserved g c =
    making_more g.F.Functions.holds g.F.Functions.tree g.F.Functions.limit c.args.functions.now
    c.row_product.new.functions c.or.new.self
    c.in_ok-sum-2.sum _ _
    (Stays-chain g.F.Functions.holds g.F.Functions.tree g.F.Functions.limit _ _ _
    c.loop-row.invariant.stays c.in_ok-product.ensures.stays)
    c.in_ok-sum-2.ensures.stays c.in_ok-sum-2.ensures.ok
    (sum_point g.F.Functions.holds g.F.Functions.tree g.F.Functions.limit c.args.functions.now
    c.loop-row.functions c.row_product.new.functions
    c.loop-row.sum c.in_ok-product.product (g.T.Local.local c.args.table.now).rows
    c.args.inputs.now c.loop-row.row
    c.loop-row.invariant c.requires.stand (rw (← c.row_count-row-end.ensures) c.loop-row-test.true)
    c.in_ok-product.ensures.stays c.in_ok-product.ensures.ok)

pub returns-then-phase-clause-ok : goal.returns-then-phase-clause-ok
returns-then-phase-clause-ok g c =
    let whole : c.loop-row.row ≡ length (g.T.Local.local c.args.table.now).rows =
    omega (arith, c.loop-row-test.false, c.loop-row.auto.row-end, c.row_count-row-end.ensures) in
    at_phase g.F.Functions.holds g.F.Functions.tree g.F.Functions.limit c.args.functions.now
    c.loop-row.functions c.loop-row.sum
    (g.T.Local.local c.args.table.now) c.args.inputs.now c.loop-row.row whole c.loop-row.invariant
    (sym c.phase.ensures ∙ c.if-phase.true)

pub returns-clause-ok : goal.returns-clause-ok
returns-clause-ok g c =
    let whole : c.loop-row.row ≡ length (g.T.Local.local c.args.table.now).rows =
    omega (arith, c.loop-row-test.false, c.loop-row.auto.row-end, c.row_count-row-end.ensures) in
    IfOk-weaker c.not.result _ _
    (λ turned means.
    off_phase g.F.Functions.holds g.F.Functions.tree g.F.Functions.limit c.args.functions.now
    c.loop-row.functions c.not.new.self c.loop-row.sum turned
    (g.T.Local.local c.args.table.now) c.args.inputs.now c.loop-row.row whole c.loop-row.invariant
    (sym c.phase.ensures ∙ c.if-phase.false) means)
    c.not.ensures.ok
