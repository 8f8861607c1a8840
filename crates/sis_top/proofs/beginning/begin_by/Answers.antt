use Rattle.std.proofs.Common.{◌≤◌, List, length, sym, subst, arith}
use Rattle.sis_script.specs.declared.command.Command.{Command}
use Rattle.sis_session.proofs.Scripts.{commands_short}
use Rattle.sis_top.proofs.beginning.begin_by.Goals as goal

pub returns-in-Ok-clause-fits : goal.returns-in-Ok-clause-fits
returns-in-Ok-clause-fits c = (
  omega arith,
  subst (λ (commands : List Command). length commands ≤ 67108864) (sym c.in-Ok.ensures) (omega (arith, commands_short c.args.text.now, c.requires)),
)
