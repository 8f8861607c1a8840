-- Collapse: each table is composed into all its fanouts, one after the other in topological order;
-- then the inner tables are removed, and what is left reads inputs and latches alone.
-- Source: the SIS report (UCB/ERL M92/41), `collapse`; Brayton, Rudell, Sangiovanni-Vincentelli and
-- Wang, "MIS: A Multiple-Level Logic Optimization System" (1987); De Micheli, "Synthesis and
-- Optimization of Digital Circuits", chapter 8. The limits are the project's own.
use Rattle.std.specs.Prelude.{◌≡◌, ℕ, Bool, true, not, ◌||◌, Option, None, List, [], ◌∷◌, fold}
use Rattle.std.specs.List.{AllByRecursion}
use Rattle.std.specs.Option.{option_map, option_map_or, option_or}
use Rattle.circuit_model.specs.Names.{has}
use Rattle.circuit_model.specs.Values.{driver}
use Rattle.circuit_model.specs.Soundness.{outputs_of, leaf_names}
use Rattle.circuit_model.specs.declared.circuit.Table.{Table}
use Rattle.circuit_model.specs.declared.circuit.Circuit.{Circuit}
use Rattle.circuit_laws.specs.Edits.{with_kept, is_root}
use Rattle.circuit_order.specs.Order.{order_of}
use Rattle.net_work.specs.Along.{refusal_along}
use Rattle.alg_tables.specs.Taking.{take_refusal}
use Rattle.alg_tables.specs.declared.taking.ComposeFault.{ComposeFault}
use Rattle.net_elim.specs.Eliminating.{with_taken}
use Rattle.sis_base.specs.declared.limits.TheConstants.{MAX_ROWS}

-- the table of a signal is composed into all its fanouts
unfoldable pub with_put : Circuit → List ℕ → Circuit
with_put circuit name = option_map_or (with_taken circuit) (driver circuit.tables name) circuit

-- whether a signal stays: an output, a latch input, or one that no table drives
abbrev pub is_outer : Circuit → List ℕ → Bool
is_outer circuit name = is_root circuit name || not (has (outputs_of circuit.tables) name)

-- all tables are composed into their fanouts, in topological order; then the inner ones are removed
unfoldable pub collapsed : Circuit → Circuit
collapsed circuit = with_kept (fold with_put circuit (order_of circuit.tables)) (is_outer circuit)

-- the finished form: no inner table, and tables read inputs and latches alone
pub record IsCollapsed (circuit : Circuit) : Type 0 where
  pub roots : AllByRecursion (λ (table : Table). is_root circuit table.output ≡ true) circuit.tables
  pub leaves : AllByRecursion (λ (table : Table). AllByRecursion (λ input. has (leaf_names circuit) input ≡ true) table.inputs) circuit.tables

-- the first table into which another one cannot be composed, by its name, and why
unfoldable pub refusal_among : Table → List Table → Option (List ℕ × ComposeFault)
refusal_among inner [] = None
refusal_among inner (outer ∷ tables) =
    option_or (option_map (λ (fault : ComposeFault). (outer.output, fault)) (take_refusal MAX_ROWS MAX_ROWS inner outer)) (refusal_among inner tables)

-- the first fanout into which the table of a signal cannot be composed, and why
abbrev pub put_refusal : Circuit → List ℕ → Option (List ℕ × ComposeFault)
put_refusal circuit name = option_map_or (λ (inner : Table). refusal_among inner circuit.tables) (driver circuit.tables name) None

-- why a circuit is not collapsed: the fanout and its fault, if a list or a composition has more
-- than `MAX_ROWS` rows or else a composition more than `MAX_INPUTS` inputs; the first such
-- composition, tables in topological order and the fanouts of each in table order
abbrev pub collapse_refusal : Circuit → Option (List ℕ × ComposeFault)
collapse_refusal circuit = refusal_along with_put put_refusal circuit (order_of circuit.tables)
