use Rattle.std.proofs.Common.{sym, ◌∙◌, arith}
use Rattle.std.specs.declared.cmp.Ordering.TheVariants.{Equal}
use Rattle.cube_cover.proofs.Orders.{order_last, order_exact}
use Rattle.cube_cover.proofs.row.Row.compare.Goals as goal

pub returns-clause-exact : goal.returns-clause-exact
returns-clause-exact g c = order_exact _ _ Equal (sym (c.loop-column.invariant ∙ order_last _ _ _ c.requires (omega (arith, c.loop-column-test.false, c.width-column-end.ensures))))
