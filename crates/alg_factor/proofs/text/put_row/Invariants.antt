use Rattle.std.proofs.Common.{◌≡◌, ◌++◌, drop, codes}
use Rattle.alg_factor.specs.Texts.{literal_texts, row_text}
use Rattle.alg_factor.specs.Writing.{left_text}
use Rattle.alg_factor.proofs.text.put_row.Given as goal

abbrev pub invariant-loop-place : goal.invariant-loop-place
invariant-loop-place g l =
    l.text.items ++ left_text l.first (codes "1") (codes "*") (literal_texts (drop l.place l.names) (drop l.place (g.R.Row.literals l.row))) ≡ l.fn.text.items ++ row_text l.names (g.R.Row.literals l.row)
