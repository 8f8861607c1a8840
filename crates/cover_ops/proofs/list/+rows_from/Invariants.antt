use Rattle.cover_ops.proofs.list.+rows_from.Given as goal

abbrev pub decreases-rows_from : goal.decreases-rows_from
decreases-rows_from g l = l.left
