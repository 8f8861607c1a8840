-- The combinational don't-cares of a table, and the tables of a circuit made minimal under them,
-- one after the other: the don't-cares of a step are those of the circuit at that step. Source: De
-- Micheli, "Synthesis and Optimization of Digital Circuits", chapter 8 (satisfiability and
-- observability don't-care conditions; simplification of one vertex after the other); the SIS
-- report (UCB/ERL M92/41), `full_simplify`, which takes compatible subsets of them for all
-- vertices.
use Rattle.std.specs.Prelude.{◌≡◌, ℕ, ◌+◌, not, map, length, fold}
use Rattle.circuit_model.specs.Soundness.{outputs_of, IsSound}
use Rattle.circuit_model.specs.declared.circuit.Circuit.{Circuit}
use Rattle.circuit_laws.specs.Edits.{with_tables}
use Rattle.circuit_laws.specs.Same.{IsSame}
use Rattle.circuit_order.specs.Order.{order_of}
use Rattle.net_func.specs.Signals.{own_function, is_seen}
use Rattle.sdc_simplify.specs.Simplified.{Freedom, with_minimum}
use Rattle.odc_simplify.specs.Seen.{seen_at}

-- the number of leaves of a circuit
abbrev pub leaf_count : Circuit → ℕ
leaf_count circuit = length circuit.inputs + length circuit.latches

-- whether a point of a table's inputs is a don't-care: no bits of the leaves give the inputs that
-- point and make the table's signal observable
unfoldable pub is_dont_care : Freedom
is_dont_care circuit table point =
    not (seen_at (leaf_count circuit) (map (own_function circuit) table.inputs)
    (is_seen circuit table.output) point)

-- all tables are replaced by their minima under their don't-cares; the order is that of the circuit
-- before the first step
unfoldable pub fully_simplified : Circuit → Circuit
fully_simplified circuit = fold (with_minimum is_dont_care) circuit (order_of circuit.tables)

-- the new circuit is sound; everything but its tables is that of the old one; they drive the same
-- signals, each at its index; and it behaves the same to whoever drives and watches it
pub record IsKept (old new : Circuit) : Type 0 where
  pub sound : IsSound new
  pub rest : new ≡ with_tables old new.tables
  pub signals : outputs_of new.tables ≡ outputs_of old.tables
  pub same : IsSame old new
