use Rattle.netlist.proofs.Cells.{cell_shaped, cell_valued}
use Rattle.netlist.proofs.laws.cells_have_tables.Goals as goal

pub returns-clause-shaped : goal.returns-clause-shaped
returns-clause-shaped c = cell_shaped

pub returns-clause-value : goal.returns-clause-value
returns-clause-value c = cell_valued
