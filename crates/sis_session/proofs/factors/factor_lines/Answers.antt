use Rattle.std.proofs.Common.{sym, subst, []}
use Rattle.sis_session.specs.Told.{AreFactorLines}
use Rattle.sis_session.proofs.Lines.{lines_of_none}
use Rattle.sis_session.proofs.factors.factor_lines.Goals as goal

pub loop-table-init : goal.loop-table-init
loop-table-init c = subst (AreFactorLines []) (sym c.new-text.ensures.items) lines_of_none
