use Rattle.std.proofs.Common.{◌≡◌, true, take}
use Rattle.std.specs.List.{list_all}
use Rattle.blif_models.specs.PortTables.{lists_both}
use Rattle.blif_models.proofs.ports.all_list.Given as goal

abbrev pub invariant-loop-place : goal.invariant-loop-place
invariant-loop-place l = list_all lists_both (take l.place l.file.models) ≡ true
