use Rattle.std.proofs.Common.{◌≡◌, drop}
use Rattle.std.specs.List.{filter_map}
use Rattle.circuit_model.specs.declared.machine.MachineRow.{MachineRow}
use Rattle.kiss_format.specs.Lines.{first_item}
use Rattle.kiss_format.proofs.whole.first_current.Given as goal

abbrev pub invariant-loop-row : goal.invariant-loop-row
invariant-loop-row l =
    first_item (filter_map (λ (row : MachineRow). row.current) l.rows) ≡ first_item (filter_map (λ (row : MachineRow). row.current) (drop l.row-index l.rows))
