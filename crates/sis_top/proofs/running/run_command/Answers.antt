use Rattle.std.proofs.Common.{◌-◌, arith}
use Rattle.sis_top.proofs.Weighing.{heft_some, lighter}
use Rattle.sis_top.proofs.running.run_command.Goals as goal

pub returns-in-Ok-clause-lighter : goal.returns-in-Ok-clause-lighter
returns-in-Ok-clause-lighter g c = lighter c.args.depth c.in-Ok.next c.in-Ok.ensures.nests

pub returns-in-Err-clause-did : goal.returns-in-Err-clause-did
returns-in-Err-clause-did g c = rw c.halt_by.ensures c.in-Err.ensures.did

pub returns-in-Err-clause-lighter : goal.returns-in-Err-clause-lighter
returns-in-Err-clause-lighter g c = omega (arith, heft_some (16 - c.args.depth))
