use Rattle.std.proofs.Common.{◌≡◌, take}
use Rattle.blif_models.specs.Files.{lines_at}
use Rattle.blif_models.specs.PortFaults.{listed_in}
use Rattle.blif_models.proofs.port_faults.all_listed.Given as goal

abbrev pub invariant-loop-line : goal.invariant-loop-line
invariant-loop-line l = l.listed ≡ listed_in (lines_at l.text (take l.line-index l.lines))
