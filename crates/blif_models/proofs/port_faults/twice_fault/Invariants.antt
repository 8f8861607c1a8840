use Rattle.std.proofs.Common.{◌≡◌}
use Rattle.blif_models.specs.PortFaults.{lines_twice}
use Rattle.blif_models.specs.Reader.{twice_fault}
use Rattle.blif_models.proofs.UsedModels.{fault_from}
use Rattle.blif_models.proofs.port_faults.twice_fault.Given as goal

abbrev pub invariant-loop-place : goal.invariant-loop-place
invariant-loop-place l = fault_from lines_twice l.file.models l.place ≡ twice_fault l.file.models
