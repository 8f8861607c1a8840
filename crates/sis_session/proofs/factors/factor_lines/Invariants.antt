use Rattle.std.proofs.Common.{take}
use Rattle.sis_session.specs.Told.{AreFactorLines}
use Rattle.sis_session.proofs.factors.factor_lines.Given as goal

abbrev pub invariant-loop-table : goal.invariant-loop-table
invariant-loop-table l = AreFactorLines (take l.table-index l.tables) l.text.items
