use Rattle.std.proofs.Common.{refl}
use Rattle.sis_top.specs.Machine.{begun}
use Rattle.sis_top.proofs.Completing.{run_kept}
use Rattle.sis_top.proofs.laws.served_runs_refuse_nothing.Goals as goal

pub returns : goal.returns
returns c = λ goes_on script turns end runs all. run_kept c.served_commands_are_done.ensures goes_on (begun script) end turns runs refl all
