use Rattle.std.proofs.Common.{bytes_eq, ◌∙◌, sym, refl}
use Rattle.indexmap.specs.IndexMap.{get}
use Rattle.net_wires.specs.Aliases.{edge_of, table_over}
use Rattle.net_wires.proofs.Carried.{table_put}
use Rattle.net_wires.proofs.aliased_tables.AliasedTables.set.Goals as goal

pub returns : goal.returns
returns c =
    table_put c.made.inside.circuit.it c.args.self.now (edge_of (get bytes_eq c.made.inside.signal_of.it)) (edge_of (get bytes_eq c.made.inside.alias_of.it)) c.args.place c.args.table
    (table_over (edge_of (get bytes_eq c.made.inside.alias_of.it)) c.args.table) c.change_table.new.circuit (sym (c.made.view_is ∙ c.replace-made.ensures.value)) c.made.invariant.1 refl c.in_ok-change_table.ensures.set
