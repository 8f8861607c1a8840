use Rattle.std.proofs.Common.{bytes_eq, ◌∙◌, sym}
use Rattle.indexmap.specs.IndexMap.{get}
use Rattle.net_readers.specs.Fanouts.{told}
use Rattle.net_wires.specs.Aliases.{edge_of}
use Rattle.net_wires.proofs.Carried.{constant_last, readers_still}
use Rattle.net_wires.proofs.aliased_tables.AliasedTables.add_constant.Goals as goal

pub invariant_of-made : goal.invariant_of-made
invariant_of-made c = (
  readers_still (told c.made.inside.readers) c.made.inside.circuit.it c.args.name c.args.bit c.in_ok-table.table c.push_table.new.circuit c.in_ok-table.ensures c.in_ok-push_table.ensures c.made.invariant.0,
  c.made.invariant.1,
)

pub returns : goal.returns
returns c =
    constant_last c.made.inside.circuit.it c.args.self.now (edge_of (get bytes_eq c.made.inside.signal_of.it)) c.args.name c.args.bit c.in_ok-table.table c.push_table.new.circuit (sym (c.made.view_is ∙ c.replace-made.ensures.value))
    c.in_ok-table.ensures c.in_ok-push_table.ensures
