use Rattle.netlist.proofs.Cells.{placed_has_table, placed_signals, placed_driven}
use Rattle.netlist.proofs.laws.placed_gates_have_tables.Goals as goal

pub returns-clause-table : goal.returns-clause-table
returns-clause-table c = placed_has_table

pub returns-clause-signals : goal.returns-clause-signals
returns-clause-signals c = placed_signals

pub returns-clause-driven : goal.returns-clause-driven
returns-clause-driven c = placed_driven
