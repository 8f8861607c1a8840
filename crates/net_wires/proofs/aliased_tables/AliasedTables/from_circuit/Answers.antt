use Rattle.std.proofs.Common.{◌≡◌, bytes_eq, ap, refl, None}
use Rattle.indexmap.specs.IndexMap.{get}
use Rattle.circuit_laws.specs.Edits.{with_tables}
use Rattle.net_wires.specs.Aliases.{edge_of, edge_or_itself}
use Rattle.net_wires.proofs.Turning.{tables_itself}
use Rattle.net_wires.proofs.aliased_tables.AliasedTables.from_circuit.Goals as goal

pub returns : goal.returns
returns c =
    ap (with_tables c.args.circuit)
    (tables_itself (edge_of (get bytes_eq c.new.result)) (λ name. let e : get bytes_eq c.new.result name ≡ None = rw c.new.ensures.empty refl in ap (λ o. edge_or_itself o name) e) c.args.circuit.tables)
