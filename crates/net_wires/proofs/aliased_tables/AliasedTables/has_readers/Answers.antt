use Rattle.std.proofs.Common.{bytes_eq, ◌∙◌, sym, ap, List, ℕ}
use Rattle.indexmap.specs.IndexMap.{get}
use Rattle.circuit_model.specs.Names.{has}
use Rattle.circuit_model.specs.Soundness.{table_inputs}
use Rattle.net_wires.specs.Aliases.{edge_of}
use Rattle.net_readers.specs.Fanouts.{told}
use Rattle.net_wires.proofs.Reading.{some_reader}
use Rattle.net_wires.proofs.Carried.{read_there}
use Rattle.net_wires.proofs.aliased_tables.AliasedTables.has_readers.Goals as goal

pub returns : goal.returns
returns c =
    some_reader (told c.self.inside.readers) c.self.inside.circuit.it.tables c.name_of.result.now c.has_readers.result c.self.invariant.0 c.has_readers.ensures
    ∙ (ap (λ (name : List ℕ). has (table_inputs c.self.inside.circuit.it.tables) name) c.name_of.ensures
    ∙ read_there c.self.inside.circuit.it c.args.self.now (edge_of (get bytes_eq c.self.inside.signal_of.it)) (edge_of (get bytes_eq c.self.inside.alias_of.it)) c.args.name.now (sym c.self.view_is) c.self.invariant.1)
