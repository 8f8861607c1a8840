use Rattle.genlib_expr.proofs.table.+constant_values.Given as goal

abbrev pub decreases-constant_values : goal.decreases-constant_values
decreases-constant_values l = l.width
