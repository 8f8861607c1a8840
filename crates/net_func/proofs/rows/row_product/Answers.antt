use Rattle.std.proofs.Common.{rules, ◌≡◌, ◌+◌, Err, [], slice_index_or, ap}
use Rattle.func_core.specs.declared.functions.FuncFault.TheVariants.{TooBig}
use Rattle.net_func.proofs.Making.{making_none, making_more, big_before, literal_point}
use Rattle.net_func.proofs.rows.row_product.Goals as goal

pub loop-place-init : goal.loop-place-init
loop-place-init g c =
    making_none g.F.Functions.holds g.F.Functions.tree g.F.Functions.limit c.args.functions.now
    c.constant.new.self
    c.in_ok-product.product (slice_index_or (g.T.Local.local c.args.table.now).rows c.args.row [])
    c.args.inputs.now
    c.in_ok-product.ensures.stays c.in_ok-product.ensures.ok

pub returns-in_err-product-2-clause-big : goal.returns-in_err-product-2-clause-big
returns-in_err-product-2-clause-big g c = λ h.
    let same : c.from_residual-in_err-product-2.result ≡ Err c.in_err-product-2.field-0.0 = search
    rules in
    let gone : c.in_err-product-2.field-0.0 ≡ TooBig = cc in (
      c.loop-place.place + 1,
      big_before g.F.Functions.holds g.F.Functions.tree g.F.Functions.limit c.args.functions.now
          c.loop-place.functions _ _
          c.loop-place.invariant.stays (c.in_err-product-2.ensures.big (ap Err gone))
          (literal_point g.F.Functions.holds g.F.Functions.tree g.F.Functions.limit
          c.args.functions.now c.loop-place.functions c.loop-place.product
          (slice_index_or (g.T.Local.local c.args.table.now).rows c.args.row []) c.args.inputs.now
          c.loop-place.place _ c.literal.result
          c.loop-place.invariant c.requires.stand c.loop-place-test.true c.requires.width
          c.literal.ensures),
    )

pub loop-place-preserved : goal.loop-place-preserved
loop-place-preserved g c =
    making_more g.F.Functions.holds g.F.Functions.tree g.F.Functions.limit c.args.functions.now
    c.loop-place.functions c.and_literal.new.functions
    c.in_ok-product-2.product _ _ c.loop-place.invariant.stays c.in_ok-product-2.ensures.stays
    c.in_ok-product-2.ensures.ok
    (literal_point g.F.Functions.holds g.F.Functions.tree g.F.Functions.limit c.args.functions.now
    c.loop-place.functions c.loop-place.product
    (slice_index_or (g.T.Local.local c.args.table.now).rows c.args.row []) c.args.inputs.now
    c.loop-place.place _ c.literal.result
    c.loop-place.invariant c.requires.stand c.loop-place-test.true c.requires.width
    c.literal.ensures)
