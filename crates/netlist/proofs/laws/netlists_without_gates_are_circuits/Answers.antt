use Rattle.netlist.proofs.Gateless.{gateless_circuit, gateless_text}
use Rattle.netlist.proofs.laws.netlists_without_gates_are_circuits.Goals as goal

pub returns-clause-circuit : goal.returns-clause-circuit
returns-clause-circuit c = gateless_circuit

pub returns-clause-text : goal.returns-clause-text
returns-clause-text c = gateless_text
