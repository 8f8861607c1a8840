use Rattle.std.proofs.Common.{◌≡◌, ◌++◌, map, drop, codes}
use Rattle.alg_factor.specs.Texts.{row_text}
use Rattle.alg_factor.specs.Writing.{left_text}
use Rattle.alg_factor.proofs.text.put_rows.Given as goal

abbrev pub invariant-loop-row : goal.invariant-loop-row
invariant-loop-row g l =
    l.text.items ++ left_text l.none_yet (codes "0") (codes " + ") (map (row_text l.names) (map g.R.Row.literals (drop l.row-index l.rows)))
    ≡ l.fn.text.items ++ left_text l.fn.first (codes "0") (codes " + ") (map (row_text l.names) (map g.R.Row.literals l.rows))
