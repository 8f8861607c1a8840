-- Simplification: step by step a table is replaced by its minimum, under don't-cares that the
-- circuit has at that step.
-- Source: the SIS report (UCB/ERL M92/41), `simplify`; De Micheli, "Synthesis and Optimization of
-- Digital Circuits", chapter 8 (simplification of one vertex after the other). The steps are in the
-- order of circuit_order, in which each table comes after what it reads.
use Rattle.std.specs.Prelude.{ℕ, Bool, false, if◌then◌else◌, Option, Some, None, List, fold}
use Rattle.std.specs.Option.{option_map_or}
use Rattle.circuit_model.specs.Values.{driver}
use Rattle.circuit_model.specs.declared.circuit.Table.{Table}
use Rattle.circuit_model.specs.declared.circuit.Circuit.{Circuit}
use Rattle.circuit_laws.specs.Edits.{with_replaced}
use Rattle.circuit_order.specs.Order.{order_of}
use Rattle.net_work.specs.Along.{refusal_along}
use Rattle.sdc_simplify.specs.Local.{is_local}
use Rattle.sdc_simplify.specs.Minimized.{minimized, is_list_long}

-- which points of a table's inputs are free in a circuit
abbrev pub Freedom : Type 0
Freedom = Circuit → Table → List Bool → Bool

-- the table of a signal is replaced by its minimum; nothing changes if no table drives it
unfoldable pub with_minimum : Freedom → Circuit → List ℕ → Circuit
with_minimum is_free circuit name =
    option_map_or (λ table. with_replaced circuit (minimized table (is_free circuit table))) (driver circuit.tables name) circuit

-- why a table is not made minimal: its on-list must be made and is too long
abbrev pub own_refusal : Table → Option (List ℕ)
own_refusal table = if is_list_long table then Some table.output else None

-- whether the on-list of a signal's table must be made and is too long
abbrev pub is_refused : Circuit → List ℕ → Bool
is_refused circuit name = option_map_or is_list_long (driver circuit.tables name) false

-- a signal whose table's on-list must be made and is too long
abbrev pub minimum_refusal : Circuit → List ℕ → Option (List ℕ)
minimum_refusal circuit name = if is_refused circuit name then Some name else None

-- all tables are replaced by their minima under local don't-cares; the order is that of the circuit
-- before the first step
unfoldable pub simplified : Circuit → Circuit
simplified circuit = fold (with_minimum is_local) circuit (order_of circuit.tables)

-- why a circuit is not simplified: the first signal in that order whose table's on-list must be
-- made and has more than `MAX_ROWS` rows
abbrev pub simplify_refusal : Circuit → Option (List ℕ)
simplify_refusal circuit = refusal_along (with_minimum is_local) minimum_refusal circuit (order_of circuit.tables)
