use Rattle.genlib_expr.proofs.table.+pin_values.Given as goal

abbrev pub decreases-pin_values : goal.decreases-pin_values
decreases-pin_values l = l.width
