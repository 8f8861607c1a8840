use Rattle.std.proofs.Common.{List, bytes_eq, ap}
use Rattle.indexmap.specs.IndexMap.{get}
use Rattle.circuit_model.specs.declared.circuit.Table.{Table}
use Rattle.circuit_laws.specs.Edits.{with_tables, with_replaced}
use Rattle.net_func.proofs.Finding.{output_found}
use Rattle.net_func.proofs.Replacing.{place_there, table_set, in_order_replaced}
use Rattle.net_func.proofs.ordered.put_table.Goals as goal

pub unreachable-requires : goal.unreachable-requires
unreachable-requires c =
    output_found c.args.ordered.now.circuit.tables (get bytes_eq c.args.ordered.now.tables.places)
    c.args.table.output c.requires.ready.tables.places c.requires.driven c.in-None.ensures

pub set_table-requires : goal.set_table-requires
set_table-requires c =
    place_there c.args.ordered.now c.args.table c.requires.ready c.in-Some.place c.in-Some.ensures
    c.requires.driven c.requires.fitting c.requires.acyclic c.requires.reads

pub returns-clause-ready : goal.returns-clause-ready
returns-clause-ready c =
    in_order_replaced c.args.ordered.now c.args.table c.requires.ready c.in-Some.place
    c.in-Some.ensures c.requires.driven c.requires.fitting c.requires.acyclic c.requires.reads
    c.set_table.new.tables c.set_table.ensures

pub returns-clause-replaced : goal.returns-clause-replaced
unfolding with_replaced
returns-clause-replaced c =
    ap (λ (tables : List Table). with_tables c.args.ordered.now.circuit tables)
    (table_set c.args.ordered.now c.args.table c.requires.ready c.in-Some.place
    c.in-Some.ensures c.requires.driven c.requires.fitting c.requires.acyclic c.requires.reads
    c.set_table.new.tables c.set_table.ensures)
