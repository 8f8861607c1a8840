use Rattle.std.proofs.Common.{◌∙◌}
use Rattle.cover_ops.proofs.Joins.{other_phase}
use Rattle.cover_ops.proofs.list.off_list.Goals as goal

pub returns-clause-value : goal.returns-clause-value
returns-clause-value g c = λ point d. c.in_ok-list.ensures.value point d ∙ other_phase c.args.phase c.args.f.now.rows point
