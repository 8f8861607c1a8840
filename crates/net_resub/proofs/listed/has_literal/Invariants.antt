use Rattle.std.proofs.Common.{◌≡◌, false, None, take}
use Rattle.std.specs.Prelude.{slice_index_or, is_some}
use Rattle.std.specs.List.{list_any}
use Rattle.net_resub.proofs.listed.has_literal.Given as goal

abbrev pub invariant-loop-row : goal.invariant-loop-row
invariant-loop-row g l = list_any (λ row. is_some (slice_index_or (g.R.Row.literals row) l.place None)) (take l.row-index l.rows) ≡ false
