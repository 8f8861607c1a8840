use Rattle.std.proofs.Common.{◌<◌, length, map, drop, sym, ap, ◌∙◌, arith}
use Rattle.std.proofs.lemmas.List.{length-map}
use Rattle.std.proofs.Common.{length-append}
use Rattle.cover_ops.specs.Composed.{row_products}
use Rattle.cover_ops.proofs.Compositions.{products_there}
use Rattle.cover_ops.proofs.composing.with_products.Goals as goal

pub returns-then-len-limit-clause-limit : goal.returns-then-len-limit-clause-limit
returns-then-len-limit-clause-limit g c = λ e.
    let more : 0 < length (row_products (g.R.Row.literals c.args.row.now) (map g.R.Row.literals (drop c.loop-other.other-index c.args.others.now))) =
    products_there g.R.Row.literals (g.R.Row.literals c.args.row.now) c.args.others.now c.loop-other.other-index c.other-item.result (omega arith) c.other-item.is (sym c.are_intersecting.ensures.by_literals ∙ c.if-are_intersecting.true) in
    omega (arith, simp (length-append, length-map) at (ap length c.loop-other.invariant.0), more)
