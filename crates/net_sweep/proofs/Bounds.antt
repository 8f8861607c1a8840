-- What is swept keeps within the bounds of a network.
use Rattle.std.proofs.Common.{◌-◌, ◌≤◌, ◌^◌, List, [], ◌∷◌, length, arith}
use Rattle.std.specs.List.{AllByRecursion}
use Rattle.circuit_model.specs.declared.circuit.Table.{Table}
use Rattle.circuit_model.specs.declared.circuit.Circuit.{Circuit}
use Rattle.net_core.specs.Reads.{IsBounded, HasBounds}
use Rattle.circuit_laws.specs.Chains.{Chain}
use Rattle.net_wires.specs.Keeping.{IsNoLarger}
use Rattle.net_wires.specs.Rules.{sweep_step}
use Rattle.net_wires.proofs.Larger.{chain_no_larger}

-- rows and inputs that are few enough, as greatest numbers
rows_within : (tables : List Table) → AllByRecursion IsBounded tables
    → AllByRecursion (λ (table : Table). length table.rows ≤ 2 ^ 33 - 1) tables
rows_within [] h = tt
rows_within (table ∷ tables) h = (omega (arith, h.0.rows), rows_within tables h.1)

inputs_within : (tables : List Table) → AllByRecursion IsBounded tables
    → AllByRecursion (λ (table : Table). length table.inputs ≤ 2 ^ 30 - 1) tables
inputs_within [] h = tt
inputs_within (table ∷ tables) h = (omega (arith, h.0.inputs), inputs_within tables h.1)

both_bounded : (tables : List Table)
    → AllByRecursion (λ (table : Table). length table.rows ≤ 2 ^ 33 - 1) tables
    → AllByRecursion (λ (table : Table). length table.inputs ≤ 2 ^ 30 - 1) tables
    → AllByRecursion IsBounded tables
both_bounded [] h k = tt
both_bounded (table ∷ tables) h k = (
  record {
    rows = omega (arith, h.0);
    inputs = omega (arith, k.0);
  },
  both_bounded tables h.1 k.1,
)

no_larger : (old new : Circuit) → IsNoLarger old new → HasBounds old → HasBounds new
no_larger old new less h = record {
  nodes = omega (arith, less.nodes, h.nodes);
  tables = both_bounded new.tables
      (less.rows (2 ^ 33 - 1) (omega arith) (rows_within old.tables h.tables))
      (less.inputs (2 ^ 30 - 1) (inputs_within old.tables h.tables));
}

pub bounds_swept : (circuit new : Circuit) → Chain sweep_step circuit new → HasBounds circuit
    → HasBounds new
bounds_swept circuit new chain h = no_larger circuit new (chain_no_larger circuit new chain) h
