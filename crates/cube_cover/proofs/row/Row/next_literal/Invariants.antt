use Rattle.std.proofs.Common.{◌≡◌, ℕ, ◌<◌, ◌≤◌, None, get_or}
use Rattle.cube_cover.proofs.row.Row.next_literal.Given as goal

abbrev pub invariant-loop-column : goal.invariant-loop-column
invariant-loop-column g l = (i : ℕ) → l.from ≤ i → i < l.column → get_or (g.Self.Row.literals l.self) i None ≡ None
