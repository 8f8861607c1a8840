use Rattle.std.proofs.Common.{◌≡◌, option_copied}
use Rattle.blif_models.specs.PortFaults.{lines_wrong}
use Rattle.blif_models.specs.Reader.{ports_fault}
use Rattle.blif_models.proofs.UsedModels.{fault_from}
use Rattle.blif_models.proofs.port_faults.ports_fault.Given as goal

abbrev pub invariant-loop-place : goal.invariant-loop-place
invariant-loop-place l = fault_from (lines_wrong l.file.models l.table) l.file.models l.place ≡ ports_fault (option_copied l.library) l.file.models
