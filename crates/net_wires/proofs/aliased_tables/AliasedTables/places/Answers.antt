use Rattle.std.proofs.Common.{bytes_eq, ◌∙◌, sym, ap, List, ℕ}
use Rattle.indexmap.specs.IndexMap.{get}
use Rattle.circuit_model.specs.Names.{has}
use Rattle.net_wires.specs.Aliases.{inputs_at, edge_of}
use Rattle.net_wires.proofs.Carried.{places_there, on_value}
use Rattle.net_wires.proofs.aliased_tables.AliasedTables.places.Goals as goal

pub returns-clause-exact : goal.returns-clause-exact
returns-clause-exact c =
    on_value c.places.result
    (λ places is place. is place
    ∙ (c.self.invariant.0 c.name_of.result.now place
    ∙ (ap (λ (name : List ℕ). has (inputs_at c.self.inside.circuit.it.tables place) name)
    c.name_of.ensures
    ∙ places_there c.self.inside.circuit.it c.args.self.now
    (edge_of (get bytes_eq c.self.inside.signal_of.it))
    (edge_of (get bytes_eq c.self.inside.alias_of.it)) c.args.name.now place
    (sym c.self.view_is) c.self.invariant.1)))
    c.places.ensures.exact
