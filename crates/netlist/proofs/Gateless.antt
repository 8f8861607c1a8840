-- A netlist without gates.
use Rattle.std.proofs.Common.{◌≡◌, List, [], ◌++◌, refl, ◌∙◌, ap}
use Rattle.sis_base.specs.Written.{lines_text}
use Rattle.circuit_model.specs.Text.{circuit_lines, text_of}
use Rattle.circuit_model.specs.declared.circuit.Circuit.{Circuit}
use Rattle.genlib_format.specs.declared.gate.Gate.{Gate}
use Rattle.netlist.specs.Netlists.{placed_tables, circuit_of}
use Rattle.netlist.specs.Lines.{lines_with_gates, netlist_text_of}
use Rattle.netlist.specs.declared.mapped.Placed.{Placed}
use Rattle.netlist.specs.declared.mapped.Mapped.{Mapped}

pub gateless_circuit : (library : List Gate) (mapped : Mapped) → mapped.gates ≡ [] → circuit_of library mapped ≡ mapped.base
unfolding circuit_of placed_tables
gateless_circuit library mapped none =
    let with_gates : List Placed → Circuit = λ gates. record mapped.base { tables = placed_tables library gates ++ mapped.base.tables } in
    ap with_gates none

gateless_lines : (circuit : Circuit) → lines_with_gates [] circuit ≡ circuit_lines circuit
unfolding lines_with_gates circuit_lines
gateless_lines circuit = refl

pub gateless_text : (mapped : Mapped) → mapped.gates ≡ [] → netlist_text_of mapped ≡ text_of mapped.base
unfolding netlist_text_of text_of
gateless_text mapped none = ap lines_text (ap (λ (gates : List Placed). lines_with_gates gates mapped.base) none ∙ gateless_lines mapped.base)
